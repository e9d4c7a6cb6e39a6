-- A learning kernel keeps what always holds.
use Rattle.std.proofs.Common.{◌≡◌, ◌∙◌, sym, ap, subst, refl, ℕ, ◌<◌, Bool, true, false, ◌==◌, ◌||◌, ◌&&◌, not, List, [], ◌∷◌, ◌++◌, length, take, Option, Some, None, append-nil, append_assoc}
use Rattle.std.specs.Prelude.{is_some, Contains, if◌then◌else◌}
use Rattle.nv_calls.specs.Calls.{Request, Response, Entry}
use Rattle.nv_calls.specs.Constants.{result_alone}
use Rattle.nv_calls.specs.Errors.{ENOSYS}
use Rattle.nv_calls.specs.Logs.{IsLegal, InRange, served, calls_of, live_after, made}
use Rattle.nv_calls.proofs.LogLaws.{lawful_none, legal_none, lawful_more, legal_more}
use Rattle.nv_calls.proofs.LearningLaws.{legal_on}
use Rattle.nv_kernel.specs.Ends.{end_next}
use Rattle.nv_run_tests.specs.Given.{is_input, inputs, reply_with, answered, from_given, IsNext, kept_list, thing_of, left_of, thing_in, handed, given_by, Gives, IsTold}
use Rattle.nv_run_tests.specs.inner.Sound.{IsSound}
use Rattle.nv_run_tests.proofs.Learned.{goes_on, next_of, served_is, next_served, none_made, live_served, none_new, end_served}

pub sound_none : IsSound [] [] None false None
sound_none = record { next = record { is = refl; count = refl }; legal = legal_none (from_given []); lawful = lawful_none; live = refl; end_is = refl }

pub sound_learned : (given more : List (Option ℕ)) (log : List Entry) (kept kept2 : Option (Option ℕ)) (over : Bool) (end : Option ℕ) → IsSound given log kept over end
    → IsNext (given ++ more) (inputs (calls_of log)) kept2 → IsSound (given ++ more) log kept2 over end
sound_learned given more log kept kept2 over end k next = record {
  next = next;
  legal = legal_on log (from_given given) (from_given (given ++ more)) (goes_on log given more kept k.next) k.legal;
  lawful = k.lawful;
  live = k.live;
  end_is = k.end_is;
}

pub none_kept : (a : Bool) (kept : Option (Option ℕ)) → (a && not (is_some kept)) ≡ true → kept ≡ None
none_kept true None h = refl
none_kept false None h = refl
none_kept true (Some x) h = cc
none_kept false (Some x) h = cc

-- a further thing was taken for a call
pub sound_taken : (given given2 : List (Option ℕ)) (log log2 : List Entry) (c : Request) (thing : Option ℕ) (kept : Option (Option ℕ)) (over : Bool) (end : Option ℕ) → IsSound given log kept over end
    → given2 ≡ given ++ thing ∷ [] → log2 ≡ log → (is_input c && not (is_some kept)) ≡ true → IsSound given2 log2 (Some thing) over end
sound_taken given given2 log log2 c thing kept over end k more same wants =
    let used : ℕ = inputs (calls_of log) in
    let none : kept ≡ None = none_kept (is_input c) kept wants in
    let all : given ≡ take used given = k.next.is ∙ (ap (λ (x : Option (Option ℕ)). take used given ++ kept_list x) none ∙ append-nil (take used given)) in
    let next : IsNext (given ++ thing ∷ []) used (Some thing) = next_of (given ++ thing ∷ []) given used (Some thing) refl (ap (λ (g : List (Option ℕ)). length g) all ∙ k.next.count) in
    subst (λ (l : List Entry). IsSound given2 l (Some thing) over end) (sym same)
    (subst (λ (g : List (Option ℕ)). IsSound g log (Some thing) over end) (sym more) (sound_learned given (thing ∷ []) log kept (Some thing) over end k next))

pub sound_same : (given : List (Option ℕ)) (log log2 : List Entry) (kept : Option (Option ℕ)) (over : Bool) (end : Option ℕ) → IsSound given log kept over end → log2 ≡ log → IsSound given log2 kept over end
sound_same given log log2 kept over end k same = subst (λ (l : List Entry). IsSound given l kept over end) (sym same) k

-- the event of the call that is served
abbrev pub event_of : List Entry → Option (Option ℕ) → Request → Entry
event_of log kept c = record { stamp = length log; call = c; reply = answered (thing_of kept) c }

pub is_served : (given : List (Option ℕ)) (log : List Entry) (kept : Option (Option ℕ)) (over : Bool) (end : Option ℕ) (c : Request) → IsSound given log kept over end → (is_input c ≡ true → is_some kept ≡ true)
    → event_of log kept c ≡ served (from_given given) log c
is_served given log kept over end c k ready = ap (λ (r : Response). record { stamp = length log; call = c; reply = r }) (served_is log given kept c k.next ready)

pub sound_served : (given : List (Option ℕ)) (log : List Entry) (kept : Option (Option ℕ)) (over : Bool) (end : Option ℕ) (c : Request) → IsSound given log kept over end
    → (is_input c ≡ true → is_some kept ≡ true) → Contains (live_after log) c.tid → length log < 500000000 → InRange (event_of log kept c)
    → IsSound given (log ++ event_of log kept c ∷ []) (left_of kept c) ((c.nr == 93) || (c.nr == 94)) (end_next ((c.nr == 93) || (c.nr == 94)) c)
sound_served given log kept over end c k ready lives few range =
    let e : Entry = record { stamp = length log; call = c; reply = answered (thing_of kept) c } in
    let same : e ≡ served (from_given given) log c = ap (λ (r : Response). record { stamp = length log; call = c; reply = r }) (served_is log given kept c k.next ready) in
    let none : made c.nr e.reply.ret ≡ None = none_made (thing_of kept) c in
    let live = live_served log e over k.live lives none in
    record {
      next = next_served log given kept e k.next ready;
      legal = subst (λ (z : Entry). IsLegal (from_given given) (log ++ z ∷ [])) (sym same) (legal_more (from_given given) log c k.legal);
      lawful = lawful_more log e k.lawful (record { stamp = refl; few = few; lives = lives; new = none_new (live_after log) (made c.nr e.reply.ret) none; range = range });
      live = live;
      end_is = end_served log e ((c.nr == 93) || (c.nr == 94)) live;
    }

-- What was given stands in the log, but for what is kept

handed_more : (log : List Entry) (e : Entry) → handed (log ++ e ∷ []) ≡ handed log ++ (if is_input e.call then thing_in e.reply.payload ∷ [] else [])
handed_more [] e = append-nil (if is_input e.call then thing_in e.reply.payload ∷ [] else [])
handed_more (x ∷ xs) e =
    let first : List (Option ℕ) = if is_input x.call then thing_in x.reply.payload ∷ [] else [] in
    ap (λ (l : List (Option ℕ)). first ++ l) (handed_more xs e) ∙ sym (append_assoc first (handed xs) (if is_input e.call then thing_in e.reply.payload ∷ [] else []))

thing_back : (thing : Option ℕ) → thing_in (reply_with thing).payload ≡ thing
thing_back None = refl
thing_back (Some x) = refl

served_by : (b : Bool) (kept : Option (Option ℕ)) (bytes : List ℕ) (h : List (Option ℕ)) → (b ≡ true → is_some kept ≡ true) → (b ≡ true → bytes ≡ (reply_with (thing_of kept)).payload)
    → (h ++ (if b then thing_in bytes ∷ [] else [])) ++ kept_list (if b then None else kept) ≡ h ++ kept_list kept
served_by false kept bytes h ready is = ap (λ (l : List (Option ℕ)). l ++ kept_list kept) (append-nil h)
served_by true None bytes h ready is = let z = ready refl in cc
served_by true (Some x) bytes h ready is =
    append-nil (h ++ thing_in bytes ∷ []) ∙ ap (λ (t : Option ℕ). h ++ t ∷ []) (ap thing_in (is refl) ∙ thing_back x)

-- a call hands in what was kept
pub given_served : (log : List Entry) (kept : Option (Option ℕ)) (c : Request) → (is_input c ≡ true → is_some kept ≡ true) → given_by (log ++ event_of log kept c ∷ []) (left_of kept c) ≡ given_by log kept
given_served log kept c ready =
    ap (λ (l : List (Option ℕ)). l ++ kept_list (left_of kept c)) (handed_more log (event_of log kept c))
    ∙ served_by (is_input c) kept (answered (thing_of kept) c).payload (handed log) ready (λ e. ap (λ (b : Bool). (if b then reply_with (thing_of kept) else result_alone ENOSYS).payload) e)

-- what is taken is given last
pub given_taken : (log log2 : List Entry) (kept : Option (Option ℕ)) (thing : Option ℕ) → log2 ≡ log → kept ≡ None → given_by log2 (Some thing) ≡ given_by log kept ++ thing ∷ []
given_taken log log2 kept thing same none =
    ap (λ (l : List Entry). handed l ++ thing ∷ []) same ∙ ap (λ (h : List (Option ℕ)). h ++ thing ∷ []) (sym (append-nil (handed log)))
    ∙ ap (λ (k : Option (Option ℕ)). (handed log ++ kept_list k) ++ thing ∷ []) (sym none)

-- what an outside tells that has given one thing more
pub told_more : (told told2 : Option (List (Option ℕ))) (given given2 : List (Option ℕ)) (thing : Option ℕ) → Gives told thing told2 → IsTold told given → given2 ≡ given ++ thing ∷ [] → IsTold told2 given2
told_more None told2 given given2 thing gives is more = subst (λ (t : Option (List (Option ℕ))). IsTold t given2) (sym gives) tt
told_more (Some h) told2 given given2 thing gives is more =
    subst (λ (t : Option (List (Option ℕ))). IsTold t given2) (sym gives) (ap (λ (g : List (Option ℕ)). g ++ thing ∷ []) is ∙ sym more)

pub told_same : (told : Option (List (Option ℕ))) (given given2 : List (Option ℕ)) → IsTold told given → given2 ≡ given → IsTold told given2
told_same told given given2 is same = subst (λ (g : List (Option ℕ)). IsTold told g) (sym same) is
