use Rattle.std.proofs.Common.{◌≡◌, ◌∙◌, sym, ap, ℕ, List, [], ◌∷◌, ◌++◌}
use Rattle.std.specs.List.{flat_map}
use Rattle.std.proofs.lemmas.List.{append-nil, append_assoc}
use Rattle.nv_calls.specs.Constants.{names}
use Rattle.nv_kernel.proofs.constants.names.Goals as goal

six : (a b c d e f : List ℕ) → flat_map (λ x. x) (a ∷ b ∷ c ∷ d ∷ e ∷ f ∷ []) ≡ a ++ b ++ c ++ d ++ e ++ f
six a b c d e f = sym (append_assoc a b _) ∙ sym (append_assoc (a ++ b) c _) ∙ sym (append_assoc (a ++ b ++ c) d _) ∙ sym (append_assoc (a ++ b ++ c ++ d) e _)
    ∙ ap (λ z. a ++ b ++ c ++ d ++ e ++ z) (append-nil f)

pub returns-clause-out : goal.returns-clause-out
unfolding names
returns-clause-out c =
    let all : flat_map (λ x. x) (c.field.result ∷ c.field-2.result ∷ c.field-3.result ∷ c.field-4.result ∷ c.field-5.result ∷ c.field-6.result ∷ []) ≡ names
    = six c.field.result c.field-2.result c.field-3.result c.field-4.result c.field-5.result c.field-6.result
    ∙ (λ i. c.field.ensures i ++ c.field-2.ensures i ++ c.field-3.ensures i ++ c.field-4.ensures i ++ c.field-5.ensures i ++ c.field-6.ensures i) in
    c.set.ensures ∙ (λ i. record { bytes = (c.as_flattened.ensures.value ∙ all) i; capacity = c.args.out.now.capacity })
