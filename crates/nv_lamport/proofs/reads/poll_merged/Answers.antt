use Rattle.std.proofs.Common.{ℕ, sym, subst}
use Rattle.nv_room.specs.Kinds.{Stepped}
use Rattle.nv_room.specs.Seats.{stations_of, view}
use Rattle.nv_room.proofs.Stepped.{no_step, more_steps}
use Rattle.nv_lamport.proofs.Looking.{head_looked, both_looked}
use Rattle.nv_lamport.proofs.reads.poll_merged.Goals.{then-head-seen+then-look_head-seen, else-head-seen, else-head-seen-via-then-head-seen+else-look_head-seen, else-head-seen-via-else-head-seen}
use Rattle.nv_lamport.proofs.reads.poll_merged.Goals as goal

pub returns-in-Held-clause-steps : goal.returns-in-Held-clause-steps
returns-in-Held-clause-steps g c = both_looked (stations_of c.args.room.now) (view c.args.reader.now) (view c.look_head.new.reader) (view c.look_owner.new.reader) c.look_head.result (view c.look_owner.new.reader).owner_last c.look_head.ensures.view c.look_owner.ensures.view

pub returns-then-n-seen-clause-steps : goal.returns-then-n-seen-clause-steps
returns-then-n-seen-clause-steps g c = both_looked (stations_of c.args.room.now) (view c.args.reader.now) (view c.look_head.new.reader) (view c.look_owner.new.reader) c.look_head.result (view c.look_owner.new.reader).owner_last c.look_head.ensures.view c.look_owner.ensures.view

pub returns-then-n-seen-2-clause-steps : goal.returns-then-n-seen-2-clause-steps
returns-then-n-seen-2-clause-steps g c = both_looked (stations_of c.args.room.now) (view c.args.reader.now) (view c.look_head.new.reader) (view c.look_owner.new.reader) c.look_head.result (view c.look_owner.new.reader).owner_last c.look_head.ensures.view c.look_owner.ensures.view

pub returns-clause-steps : goal.returns-clause-steps
returns-clause-steps g c =
    let n : ℕ = stations_of c.args.room.now in
    let old = view c.args.reader.now in
    let mid = view c.if-head-seen.reader in
    let before : Stepped n old mid = elim c.if-head-seen.branch [
      | then-head-seen+then-look_head-seen w ↦
          let asked = view w.look_owner.new.reader in
          let again = view w.look_head-then-look_head-seen.new.reader in
          subst (λ r. Stepped n old (view r)) (sym w.reader-is)
          (more_steps n old asked again (both_looked n old (view w.look_head.new.reader) asked w.look_head.result asked.owner_last w.look_head.ensures.view w.look_owner.ensures.view)
          (head_looked n asked again w.look_head-then-look_head-seen.result w.look_head-then-look_head-seen.ensures.view))
      | else-head-seen w ↦ subst (λ r. Stepped n old (view r)) (sym w.reader-is) (elim w.else-head-seen.branch [
        | else-head-seen-via-then-head-seen+else-look_head-seen u ↦ subst (λ r. Stepped n old (view r)) (sym u.reader-is) (head_looked n old (view u.look_head.new.reader) u.look_head.result u.look_head.ensures.view)
        | else-head-seen-via-else-head-seen u ↦ subst (λ r. Stepped n old (view r)) (sym u.reader-is) (no_step n old)
      ])
    ] in
    more_steps n old mid (view c.next_event.new.reader) before c.next_event.ensures.steps
