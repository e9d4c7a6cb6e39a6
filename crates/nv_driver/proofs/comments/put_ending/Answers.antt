use Rattle.std.proofs.Common.{ℕ, List, ap, sym, ◌∙◌}
use Rattle.nv_outside.proofs.Writing.{puts-is}
use Rattle.nv_driver.specs.Comments.{ending_text, input_text}
use Rattle.nv_driver.proofs.comments.put_ending.Goals as goal

pub returns-in-Refused : goal.returns-in-Refused
returns-in-Refused g c =
    puts-is (ap (λ (why : List ℕ). input_text c.in-Refused.line why) c.word_of.ensures ∙ ap ending_text (sym c.in-Refused.is)) c.put_refused_line.ensures

pub returns-in-CutOff : goal.returns-in-CutOff
returns-in-CutOff g c = puts-is (ap ending_text (sym c.in-CutOff.is)) c.put_refused_line-in-CutOff.ensures

pub returns-in-Unsaid : goal.returns-in-Unsaid
returns-in-Unsaid g c = puts-is (ap ending_text (sym c.in-Unsaid.is)) c.put_all-in-Unsaid.ensures
