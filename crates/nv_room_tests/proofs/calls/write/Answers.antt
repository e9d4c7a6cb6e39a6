use Rattle.std.proofs.Common.{◌∙◌, ap, length, arith}
use Rattle.std.proofs.lemmas.Grind.{common_steps}
use Rattle.nv_room_tests.proofs.Shaped.{write-shaped}
use Rattle.nv_room_tests.proofs.calls.write.Goals as goal

pub returns-clause-shaped : goal.returns-clause-shaped
returns-clause-shaped c =
    write-shaped 100 c.args.bytes c.set.new.self.bytes
    (ap (λ b. length b.bytes) c.set.ensures ∙ ap length c.deref.ensures.value ∙ grind (arith, c.in_ok-zeros.ensures.len, c.in_ok-zeros.zeros.ok, common_steps)) c.requires
