use Rattle.std.proofs.Common.{◌≡◌, ℕ, List, [], ◌++◌, Option, Some, None, option_map, false, ◌+◌, ap, sym, refl, ◌∙◌, arith, append-nil}
use Rattle.nv_asm.specs.Strings.{quoted}
use Rattle.nv_asm.proofs.Quoting.{quoted-stands, quoted-escapes, quoted-ends, quoted-wrong, quoted-none, at_end-none, at_end-some}
use Rattle.nv_asm.proofs.strings.quoted.Goals as goal
use Rattle.nv_asm.proofs.strings.quoted.Goals.{in-Stands+in_ok-push-in-Stands, in-Escapes}

abbrev after_prefix : List ℕ → Option (List ℕ) → Option (List ℕ)
after_prefix prefix more = option_map (λ m. prefix ++ m) more

pub loop-i-init : goal.loop-i-init
loop-i-init c = whole c.new-bytes.result.items (quoted false c.args.text.now) c.new-bytes.ensures.items where
  whole : (prefix : List ℕ) (o : Option (List ℕ)) → prefix ≡ [] → after_prefix prefix o ≡ o
  whole prefix None e = refl
  whole prefix (Some bs) e = ap (λ f. Some (f ++ bs)) e

pub returns-then-i-text : goal.returns-then-i-text
returns-then-i-text c =
    let x = c.loop-i.escaped in
    let bs = c.args.text.now in
    let i = c.loop-i.i in
    let ended = quoted-ends x bs i c.loop-i-test.true (sym c.mark_of.ensures ∙ c.in-Ends.is) ∙ at_end-none bs (i + 1) (omega arith) in
    sym (ap Some (append-nil c.loop-i.bytes.items)) ∙ sym (ap (after_prefix c.loop-i.bytes.items) ended) ∙ c.loop-i.invariant

pub returns-in-Ends : goal.returns-in-Ends
returns-in-Ends c =
    let x = c.loop-i.escaped in
    let bs = c.args.text.now in
    let i = c.loop-i.i in
    let ended = quoted-ends x bs i c.loop-i-test.true (sym c.mark_of.ensures ∙ c.in-Ends.is) ∙ at_end-some bs (i + 1) (omega arith) in
    sym (ap (after_prefix c.loop-i.bytes.items) ended) ∙ c.loop-i.invariant

pub returns-in-Wrong : goal.returns-in-Wrong
returns-in-Wrong c =
    let ended = quoted-wrong c.loop-i.escaped c.args.text.now c.loop-i.i c.loop-i-test.true (sym c.mark_of.ensures ∙ c.in-Wrong.is) in
    sym (ap (after_prefix c.loop-i.bytes.items) ended) ∙ c.loop-i.invariant

pub loop-i-preserved : goal.loop-i-preserved
loop-i-preserved c =
    let x = c.loop-i.escaped in
    let bs = c.args.text.now in
    let i = c.loop-i.i in
    let prefix = c.loop-i.bytes.items in
    elim c.match-mark_of.branch [
      | in-Stands+in_ok-push-in-Stands w ↦
          rw (w.bytes-is, w.escaped-is, w.in_ok-push-in-Stands.ensures.items) (sym (quoted-stands prefix x bs i w.in-Stands.byte c.loop-i-test.true (sym c.mark_of.ensures ∙ w.in-Stands.is)) ∙ c.loop-i.invariant)
      | in-Escapes w ↦
          rw (w.bytes-is, w.escaped-is) (sym (ap (after_prefix prefix) (quoted-escapes x bs i c.loop-i-test.true (sym c.mark_of.ensures ∙ w.in-Escapes.is))) ∙ c.loop-i.invariant)
    ]

pub returns : goal.returns
returns c =
    sym (ap (after_prefix c.loop-i.bytes.items) (quoted-none c.loop-i.escaped c.args.text.now c.loop-i.i c.loop-i-test.false)) ∙ c.loop-i.invariant
