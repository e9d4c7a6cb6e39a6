use Rattle.std.proofs.Common.{◌≡◌, ◌+◌, ◌++◌, ◌≤◌, length}
use Rattle.nv_bytes.specs.Lines.{lines}
use Rattle.nv_bytes.specs.Names.{first_fault}
use Rattle.nv_asm.specs.declared.place.Section.TheVariants as section
use Rattle.nv_asm.specs.Places.{placed, nothing_reached, ended}
use Rattle.nv_asm.specs.Assembled.{section_bytes, entry_address, text_base}
use Rattle.nv_asm.specs.inner.Known.{known}
use Rattle.nv_asm.specs.inner.Programs.{IsEntryAt}
use Rattle.nv_asm.proofs.Faultless.{causes}
use Rattle.nv_asm.proofs.assembling.lay.Given as goal

abbrev pub invariant-loop-line : goal.invariant-loop-line
invariant-loop-line l = record {
  faults : first_fault l.line-iterator.before (causes (known l.names l.text_len) (placed l.line-iterator.before l.reached l.line-iterator.left)) ≡ first_fault 0 (causes (known l.names l.text_len) (placed 0 nothing_reached (lines l.fn.text)));
  texts : l.out.text.items ++ section_bytes (known l.names l.text_len) section.Text (placed l.line-iterator.before l.reached l.line-iterator.left) ≡ section_bytes (known l.names l.text_len) section.Text (placed 0 nothing_reached (lines l.fn.text));
  contents : l.out.data.items ++ section_bytes (known l.names l.text_len) section.Data (placed l.line-iterator.before l.reached l.line-iterator.left) ≡ section_bytes (known l.names l.text_len) section.Data (placed 0 nothing_reached (lines l.fn.text));
  entries : entry_address (known l.names l.text_len) l.out.entry (placed l.line-iterator.before l.reached l.line-iterator.left) ≡ entry_address (known l.names l.text_len) text_base (placed 0 nothing_reached (lines l.fn.text));
  entry_at : IsEntryAt l.text_len l.out.entry;
  ends : ended l.reached (placed l.line-iterator.before l.reached l.line-iterator.left) ≡ ended nothing_reached (placed 0 nothing_reached (lines l.fn.text));
  text_len_is : length l.out.text.items ≡ l.reached.text_len;
  data_len_is : length l.out.data.items ≡ l.reached.data_len;
  short : l.reached.text_len + l.reached.data_len ≤ 1048576;
}
