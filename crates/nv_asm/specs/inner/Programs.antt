-- The code's programs as the definitions see them.
use Rattle.std.specs.Prelude.{◌≡◌, ℕ, ◌+◌, ◌-◌, ◌%◌, ◌≤◌, List, ◌++◌, length, Option, None, option_map, Ok}
use Rattle.nv_bytes.specs.Lines.{line_number}
use Rattle.nv_asm.specs.declared.fault.AsmCause.{AsmCause}
use Rattle.nv_asm.specs.declared.fault.AsmFault.{AsmFault}
use Rattle.nv_asm.specs.declared.fault.AsmFault.TheVariants as fault
use Rattle.nv_asm.specs.declared.place.Reached.{Reached}
use Rattle.nv_asm.specs.declared.place.Section.TheVariants as section
use Rattle.nv_asm.specs.Places.{Placed, stated, after, ended, nothing_reached}
use Rattle.nv_asm.specs.Assembled.{Whole, laid, laid_in, entry_past, text_base, first_cause, section_bytes, entry_address}

abbrev pub fault_found : Option (ℕ × AsmCause) → Option AsmFault
fault_found found = option_map (λ f. fault.Line (line_number f.0) f.1) found

-- an entry is a whole instruction's address in the text section, or the section's base
pub record IsEntryAt (text_len entry : ℕ) : Type 0 where
  pub least : text_base ≤ entry
  pub most : entry ≤ text_base + (text_len - 4)
  pub aligned : entry % 4 ≡ 0

-- lines without a fault, their sections' bytes and their entry
pub record IsLaidText (w : Whole) (ps : List Placed) (text contents : List ℕ) (entry : ℕ) : Type 0 where
  pub faultless : first_cause w ps ≡ None
  pub text_bytes : section_bytes w section.Text ps ≡ text
  pub data_bytes : section_bytes w section.Data ps ≡ contents
  pub text_len : length text ≡ (ended nothing_reached ps).text_len
  pub short : length text + length contents ≤ 1048576
  pub entry_is : entry_address w text_base ps ≡ entry
  pub entry_at : IsEntryAt w.text_len entry

-- a line adds its bytes to its section
pub record AddsLine (w : Whole) (p : Placed) (before : Reached) (text text' contents contents' : List ℕ) (entry entry' : ℕ) (reached : Reached) : Type 0 where
  pub bytes : List ℕ
  pub laid_is : laid w p ≡ Ok bytes
  pub text_is : text' ≡ text ++ laid_in section.Text before.section bytes
  pub contents_is : contents' ≡ contents ++ laid_in section.Data before.section bytes
  pub entry_is : entry' ≡ entry_past w entry (stated p)
  pub reached_is : reached ≡ after p
