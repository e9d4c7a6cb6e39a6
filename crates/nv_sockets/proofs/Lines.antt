-- The text of the connections, by the code's values.
use Rattle.std.proofs.Common.{◌≡◌, ◌∙◌, sym, ap, refl, append_assoc, append-nil, ℕ, suc, ◌+◌, ◌<◌, Bool, true, false, cond, ◌==◌, List, [], ◌∷◌, ◌++◌, length, map, take, drop, get_or, Option, arith}
use Rattle.std.specs.Prelude.{Ok, Err, IsErr}
use Rattle.std.proofs.lemmas.List.{length-map, length-take, map-append, take_more, take-append-drop}
use Rattle.nv_calls.specs.Logs.{Written}
use Rattle.nv_outside.specs.Sink.{Put, Puts}
use Rattle.nv_outside.specs.declared.sink.WriteFailed.{WriteFailed}
use Rattle.nv_outside.proofs.Writing.{puts-is, puts-then, puts-failed}
use Rattle.nv_sockets.specs.declared.connection.Connection.{Connection}
use Rattle.nv_sockets.specs.Serving.{link_written}
use Rattle.nv_sockets.specs.Texts.{connection_count_text, connection_text, connection_texts, connections_text}
use Rattle.nv_sockets.specs.Views.{link_of, written_of}

pub written_is : (cs : List Connection) → map written_of cs ≡ map link_written (map link_of cs)
written_is [] = refl
written_is (c ∷ cs) = ap (λ rest. written_of c ∷ rest) (written_is cs)

text_by : (cs : List Connection) (b : Bool) → (length cs == 0) ≡ b
    → cond {A = List ℕ} b [] (connection_count_text (length cs) ++ connection_texts 0 (map written_of cs)) ≡ connections_text (map written_of cs)
text_by cs b h =
    let lines = connection_texts 0 (map written_of cs) in
    ap (λ (z : Bool). cond {A = List ℕ} z [] (connection_count_text (length cs) ++ lines)) (sym h)
    ∙ ap (λ (n : ℕ). cond {A = List ℕ} (n == 0) [] (connection_count_text n ++ lines)) (sym (length-map cs written_of))

pub no_text : (cs : List Connection) → (length cs == 0) ≡ true → [] ≡ connections_text (map written_of cs)
no_text cs h = text_by cs true h

pub some_text : (cs : List Connection) → (length cs == 0) ≡ false → connection_count_text (length cs) ++ connection_texts 0 (map written_of cs) ≡ connections_text (map written_of cs)
some_text cs h = text_by cs false h

-- ---- one connection after another

texts_append : (n : ℕ) (ws vs : List Written) → connection_texts n (ws ++ vs) ≡ connection_texts n ws ++ connection_texts (n + length ws) vs
texts_append n [] vs = let here : n ≡ n + 0 = omega arith in ap (λ k. connection_texts k vs) here
texts_append n (w ∷ ws) vs =
    let next : n + 1 + length ws ≡ n + suc (length ws) = omega arith in
    ap (λ t. connection_text n w ++ t) (texts_append (n + 1) ws vs ∙ ap (λ k. connection_texts (n + 1) ws ++ connection_texts k vs) next)
    ∙ sym (append_assoc (connection_text n w) (connection_texts (n + 1) ws) (connection_texts (n + suc (length ws)) vs))

texts_so_far : (cs : List Connection) (i : ℕ) (d : Connection) → i < length cs
    → connection_texts 0 (map written_of (take i cs)) ++ connection_text i (written_of (get_or cs i d)) ≡ connection_texts 0 (map written_of (take (i + 1) cs))
texts_so_far cs i d less =
    let cut = length-take i cs in
    let many = length-map (take i cs) written_of in
    let long : 0 + length (map written_of (take i cs)) ≡ i = omega (arith, cut, many, less) in
    ap (λ t. connection_texts 0 (map written_of (take i cs)) ++ t) (sym (append-nil (connection_text i (written_of (get_or cs i d)))))
    ∙ ap (λ (k : ℕ). connection_texts 0 (map written_of (take i cs)) ++ connection_texts k (written_of (get_or cs i d) ∷ [])) (sym long)
    ∙ sym (texts_append 0 (map written_of (take i cs)) (written_of (get_or cs i d) ∷ []))
    ∙ ap (connection_texts 0) (sym (map-append written_of (take i cs) (get_or cs i d ∷ [])))
    ∙ ap (λ (z : List Connection). connection_texts 0 (map written_of z)) (sym (take_more cs i d less))

-- one more is written
pub lines_more : {a b c : Option (List ℕ)} {f g h : ℕ} (cs : List Connection) (i : ℕ) (d : Connection) → i < length cs
    → Puts a f (connection_texts 0 (map written_of (take i cs))) (Ok tt) b g → Puts b g (connection_text i (written_of (get_or cs i d))) (Ok tt) c h
    → Puts a f (connection_texts 0 (map written_of (take (i + 1) cs))) (Ok tt) c h
lines_more cs i d less p q = puts-is (texts_so_far cs i d less) (puts-then p q)

-- one isn't, so that those after it aren't either
pub lines_stopped : {a b c : Option (List ℕ)} {f g h : ℕ} {e : WriteFailed} {put : Put} (cs : List Connection) (i : ℕ) (d : Connection) → i < length cs → IsErr put
    → Puts a f (connection_texts 0 (map written_of (take i cs))) (Ok tt) b g → Puts b g (connection_text i (written_of (get_or cs i d))) (Err e) c h
    → Puts a f (connection_texts 0 (map written_of cs)) put c h
lines_stopped cs i d less failed p q =
    let rest = connection_texts (0 + length (map written_of (take (i + 1) cs))) (map written_of (drop (i + 1) cs)) in
    let whole = ap (λ t. t ++ rest) (texts_so_far cs i d less)
    ∙ sym (texts_append 0 (map written_of (take (i + 1) cs)) (map written_of (drop (i + 1) cs)))
    ∙ ap (connection_texts 0) (sym (map-append written_of (take (i + 1) cs) (drop (i + 1) cs)))
    ∙ ap (λ (z : List Connection). connection_texts 0 (map written_of z)) (take-append-drop (i + 1) cs) in
    puts-is whole (puts-failed rest failed (puts-then p q))
