use Rattle.std.proofs.Common.{◌++◌, ap, ◌∙◌, codes}
use Rattle.nv_outside.proofs.Writing.{puts-is, puts-then, puts-failed}
use Rattle.nv_inspect.specs.Shown.{word_text}
use Rattle.nv_inspect.proofs.threads.put_counter.Goals as goal

pub returns-in_err-put_pieces : goal.returns-in_err-put_pieces
returns-in_err-put_pieces g c =
    puts-failed (word_text c.args.pc ++ codes "\n") c.from_residual.ensures.0
    (puts-is (ap (λ t. codes "thread " ++ (t ++ codes " pc ")) (c.as_bytes.ensures.value ∙ c.format.ensures.text)) c.in_err-put_pieces.ensures)

pub returns : goal.returns
returns g c =
    puts-then (puts-is (ap (λ t. codes "thread " ++ (t ++ codes " pc ")) (c.as_bytes.ensures.value ∙ c.format.ensures.text)) c.in_ok-put_pieces.ensures)
    (puts-then c.in_ok-put_word.ensures c.put_all.ensures)

pub returns-in_err-put_word : goal.returns-in_err-put_word
returns-in_err-put_word g c =
    puts-then (puts-is (ap (λ t. codes "thread " ++ (t ++ codes " pc ")) (c.as_bytes.ensures.value ∙ c.format.ensures.text)) c.in_ok-put_pieces.ensures)
    (puts-failed (codes "\n") c.from_residual-in_err-put_word.ensures.0 c.in_err-put_word.ensures)
