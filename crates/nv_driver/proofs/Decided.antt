-- What is told decides what is found, where nothing turns out to be unreadable.
use Rattle.std.proofs.Common.{◌≡◌, sym, ap, subst, refl, inl, inr, ⊎_elim, ◌⊎◌, ℕ, ◌+◌, ◌≤◌, Bool, true, false, if◌then◌else◌, List, [], ◌∷◌, length, map, Option, None, Some, option_map, unwrap_or, Result, Ok, Err, arith}
use Rattle.std.proofs.lemmas.Bool.Decides.{nat_tests}
use Rattle.nv_outside.specs.Told.{Told, Untold, Missing, Content, Fallible}
use Rattle.nv_bpf.specs.declared.op.Op.{Op}
use Rattle.nv_bpf.specs.declared.op.FilterFault.{FilterFault}
use Rattle.nv_bpf.specs.Texts.{filter_of}
use Rattle.nv_machine.specs.Guest.{Machine}
use Rattle.nv_driver.specs.Words.{Limits, Plan, Service}
use Rattle.nv_script.specs.Scripts.{Setup, script_of}
use Rattle.nv_script.specs.declared.fault.ScriptFault.{ScriptFault}
use Rattle.nv_driver.specs.Found.{Found, Whole, TooLong, Unread, Finds, Agrees, AgreesIf, AllAgree, AreFound, AgreesWithin, FILE_LIMIT, script_limit, is_longer, found_whole, found_within, found_of, finds_of}
use Rattle.nv_driver.specs.Prepared.{Prepared, Unreadable, Refused, Ready, VersionOf, Faulty, Loads, read_at, with_first_machine, version_then, versions_from, judged_by, rules_then, after_rules, after_script, version_from, prepared}
use Rattle.nv_driver.specs.Live.{AgreesOrBare, AreLiveFound, bare_text, live_script, after_live_script, live_prepared, found_or_bare, live_finds_of}
use Rattle.nv_driver.specs.declared.refusal.Cause.{Cause}
use Rattle.nv_driver.specs.declared.refusal.Place.{Place}
use Rattle.nv_driver.specs.declared.refusal.Place.TheVariants.{Script, Rules, Version}

abbrev pub IsUnread : Prepared → Type 0
IsUnread (Unreadable place) = Unit {0}
IsUnread (Refused place cause) = ⊥
IsUnread (Ready setup rules machines) = ⊥

not_longer : (limit : ℕ) (bytes : List ℕ) → length bytes ≤ limit → is_longer limit bytes ≡ false
not_longer limit bytes h = grind (arith, nat_tests)

whole_of : (limit : ℕ) (bytes : List ℕ) → is_longer limit bytes ≡ false → Whole bytes ≡ found_whole limit bytes
whole_of limit bytes short = rw short refl

long_of : (limit : ℕ) (content : List ℕ) → is_longer limit content ≡ true → TooLong ≡ found_whole limit content
long_of limit content long = rw long refl

longer_of : (limit : ℕ) (bytes content : List ℕ) → is_longer limit bytes ≡ true → bytes ≡ content → is_longer limit content ≡ true
longer_of limit bytes content long same = subst (λ (c : List ℕ). is_longer limit c ≡ true) same long

same_bytes : (bytes content : List ℕ) → Some bytes ≡ Some content → bytes ≡ content
same_bytes bytes content e = ap (λ (o : Option (List ℕ)). unwrap_or o []) e

-- what is told may be found
pub told_agrees : (limit : ℕ) (told : Told) → AgreesWithin limit told (found_within limit told)
told_agrees limit Untold = tt
told_agrees limit Missing = tt
told_agrees limit (Content bytes) = by (is_longer limit bytes) refl
  where
    by : (b : Bool) → is_longer limit bytes ≡ b → AgreesWithin limit (Content bytes) (if b then TooLong else Whole bytes)
    by true long = record { there = λ e. cc; same = λ content e. longer_of limit bytes content long (same_bytes bytes content e) }
    by false short = record { short = grind (arith, nat_tests); there = λ e. cc; same = λ content e. same_bytes bytes content e }
told_agrees limit (Fallible bytes) = by (is_longer limit bytes) refl
  where
    by : (b : Bool) → is_longer limit bytes ≡ b → AgreesWithin limit (Fallible bytes) (if b then TooLong else Whole bytes)
    by true long = record { there = λ e. cc; same = λ content e. longer_of limit bytes content long (same_bytes bytes content e) }
    by false short = record { short = grind (arith, nat_tests); there = λ e. cc; same = λ content e. same_bytes bytes content e }

whole_is : (limit : ℕ) (bytes content : List ℕ) → length bytes ≤ limit → bytes ≡ content → Whole bytes ≡ found_whole limit content
whole_is limit bytes content short same = subst (λ (c : List ℕ). Whole bytes ≡ found_whole limit c) same (whole_of limit bytes (not_longer limit bytes short))

-- what is found is what is told, unless the file is unreadable or untold
pub same_within : (limit : ℕ) (told : Told) (found : Found) → AgreesWithin limit told found → (found ≡ Unread) ⊎ ((found_within limit told ≡ Unread) ⊎ (found ≡ found_within limit told))
same_within limit told Unread a = inl refl
same_within limit Untold (Whole bytes) a = inr (inl refl)
same_within limit Untold TooLong a = inr (inl refl)
same_within limit Missing (Whole bytes) a = inr (inl refl)
same_within limit Missing TooLong a = inr (inl refl)
same_within limit (Content content) (Whole bytes) a = inr (inr (whole_is limit bytes content a.short (a.same content refl)))
same_within limit (Content content) TooLong a = inr (inr (long_of limit content (a.same content refl)))
same_within limit (Fallible content) (Whole bytes) a = inr (inr (whole_is limit bytes content a.short (a.same content refl)))
same_within limit (Fallible content) TooLong a = inr (inr (long_of limit content (a.same content refl)))

pub same_found : (told : Told) (found : Found) → Agrees told found → (found ≡ Unread) ⊎ ((found_of told ≡ Unread) ⊎ (found ≡ found_of told))
same_found told found a = same_within FILE_LIMIT told found a

same_read : (place : Place) (found : Found) (check other : List ℕ → Prepared) → ((bytes : List ℕ) → (IsUnread (check bytes) → ⊥) → (IsUnread (other bytes) → ⊥) → check bytes ≡ other bytes)
    → (IsUnread (read_at place found check) → ⊥) → (IsUnread (read_at place found other) → ⊥) → read_at place found check ≡ read_at place found other
same_read place (Whole bytes) check other same here there = same bytes here there
same_read place TooLong check other same here there = refl
same_read place Unread check other same here there = refl

same_at_within : (limit : ℕ) (place : Place) (told : Told) (found : Found) (check other : List ℕ → Prepared) → AgreesWithin limit told found
    → ((bytes : List ℕ) → (IsUnread (check bytes) → ⊥) → (IsUnread (other bytes) → ⊥) → check bytes ≡ other bytes)
    → (IsUnread (read_at place found check) → ⊥) → (IsUnread (read_at place (found_within limit told) other) → ⊥) → read_at place found check ≡ read_at place (found_within limit told) other
same_at_within limit place told found check other a same here there =
    ⊎_elim (λ (e : found ≡ Unread). absurd (here (subst (λ (f : Found). IsUnread (read_at place f check)) (sym e) tt)))
    (λ (r : (found_within limit told ≡ Unread) ⊎ (found ≡ found_within limit told)). ⊎_elim
    (λ (e : found_within limit told ≡ Unread). absurd (there (subst (λ (f : Found). IsUnread (read_at place f other)) (sym e) tt)))
    (λ (e : found ≡ found_within limit told). subst (λ (f : Found). (IsUnread (read_at place f other) → ⊥) → read_at place found check ≡ read_at place f other) e
    (same_read place found check other same here) there) r)
    (same_within limit told found a)

same_at : (place : Place) (told : Told) (found : Found) (check other : List ℕ → Prepared) → Agrees told found
    → ((bytes : List ℕ) → (IsUnread (check bytes) → ⊥) → (IsUnread (other bytes) → ⊥) → check bytes ≡ other bytes)
    → (IsUnread (read_at place found check) → ⊥) → (IsUnread (read_at place (found_of told) other) → ⊥) → read_at place found check ≡ read_at place (found_of told) other
same_at place told found check other a same here there = same_at_within FILE_LIMIT place told found check other a same here there

prefix_unread : (machine : Machine) (rest : Prepared) → IsUnread rest → IsUnread (with_first_machine machine rest)
prefix_unread machine (Unreadable place) u = tt
prefix_unread machine (Refused place cause) u = absurd u
prefix_unread machine (Ready setup rules machines) u = absurd u

same_then : (i : ℕ) (version : VersionOf) (rest other : Prepared) → ((IsUnread rest → ⊥) → (IsUnread other → ⊥) → rest ≡ other)
    → (IsUnread (version_then i rest version) → ⊥) → (IsUnread (version_then i other version) → ⊥) → version_then i rest version ≡ version_then i other version
same_then i (Faulty cause) rest other same here there = refl
same_then i (Loads machine) rest other same here there = ap (with_first_machine machine) (same (λ u. here (prefix_unread machine rest u)) (λ u. there (prefix_unread machine other u)))

abbrev told_finds : (List ℕ → Told) → List (List ℕ) → List Found
told_finds holds names = map (λ name. found_of (holds name)) names

same_versions : (limits : Limits) (setup : Setup) (holds : List ℕ → Told) (names : List (List ℕ)) (finds : List Found) (i : ℕ) → AllAgree holds names finds
    → (IsUnread (versions_from limits setup i finds) → ⊥) → (IsUnread (versions_from limits setup i (told_finds holds names)) → ⊥)
    → versions_from limits setup i finds ≡ versions_from limits setup i (told_finds holds names)
same_versions limits setup holds [] [] i agree here there = refl
same_versions limits setup holds [] (found ∷ finds) i agree here there = absurd agree
same_versions limits setup holds (name ∷ names) [] i agree here there = absurd agree
same_versions limits setup holds (name ∷ names) (found ∷ finds) i agree here there =
    same_at (Version i) (holds name) found
    (λ bytes. version_then i (versions_from limits setup (i + 1) finds) (version_from limits setup bytes))
    (λ bytes. version_then i (versions_from limits setup (i + 1) (told_finds holds names)) (version_from limits setup bytes))
    agree.0
    (λ bytes. same_then i (version_from limits setup bytes) (versions_from limits setup (i + 1) finds) (versions_from limits setup (i + 1) (told_finds holds names))
    (same_versions limits setup holds names finds (i + 1) agree.1))
    here there

judged_unread : (ops : List Op) (rest : Prepared) → IsUnread rest → IsUnread (judged_by ops rest)
judged_unread ops (Unreadable place) u = tt
judged_unread ops (Refused place cause) u = absurd u
judged_unread ops (Ready setup rules machines) u = absurd u

same_filter : (filter : Result (List Op) FilterFault) (rest other : Prepared) → ((IsUnread rest → ⊥) → (IsUnread other → ⊥) → rest ≡ other)
    → (IsUnread (rules_then rest filter) → ⊥) → (IsUnread (rules_then other filter) → ⊥) → rules_then rest filter ≡ rules_then other filter
same_filter (Ok ops) rest other same here there = ap (judged_by ops) (same (λ u. here (judged_unread ops rest u)) (λ u. there (judged_unread ops other u)))
same_filter (Err fault) rest other same here there = refl

abbrev told_rules : (List ℕ → Told) → Option (List ℕ) → Option Found
told_rules holds name = option_map (λ n. found_of (holds n)) name

same_rules : (holds : List ℕ → Told) (name : Option (List ℕ)) (found : Option Found) (rest other : Prepared) → AgreesIf holds name found
    → ((IsUnread rest → ⊥) → (IsUnread other → ⊥) → rest ≡ other)
    → (IsUnread (after_rules found rest) → ⊥) → (IsUnread (after_rules (told_rules holds name) other) → ⊥) → after_rules found rest ≡ after_rules (told_rules holds name) other
same_rules holds None None rest other agree same here there = same here there
same_rules holds None (Some found) rest other agree same here there = absurd agree
same_rules holds (Some name) None rest other agree same here there = absurd agree
same_rules holds (Some name) (Some found) rest other agree same here there =
    same_at Rules (holds name) found (λ bytes. rules_then rest (filter_of 4096 bytes)) (λ bytes. rules_then other (filter_of 4096 bytes)) agree
    (λ bytes. same_filter (filter_of 4096 bytes) rest other same) here there

same_script : (read : Result Setup ScriptFault) (versions other : Setup → Prepared) → ((setup : Setup) → (IsUnread (versions setup) → ⊥) → (IsUnread (other setup) → ⊥) → versions setup ≡ other setup)
    → (IsUnread (after_script versions read) → ⊥) → (IsUnread (after_script other read) → ⊥) → after_script versions read ≡ after_script other read
same_script (Ok setup) versions other same here there = same setup here there
same_script (Err fault) versions other same here there = refl

-- what the files come to is what those that are told come to
pub same_prepared : (holds : List ℕ → Told) (plan : Plan) (finds : Finds) → AreFound plan holds finds
    → (IsUnread (prepared plan.limits finds) → ⊥) → (IsUnread (prepared plan.limits (finds_of holds plan)) → ⊥) → prepared plan.limits finds ≡ prepared plan.limits (finds_of holds plan)
same_prepared holds plan finds agree here there =
    same_at_within (script_limit plan.script) Script (holds plan.script.name) finds.script
    (λ bytes. after_script (λ setup. after_rules finds.rules (versions_from plan.limits setup 0 finds.versions)) (script_of bytes))
    (λ bytes. after_script (λ setup. after_rules (told_rules holds plan.rules) (versions_from plan.limits setup 0 (told_finds holds plan.versions))) (script_of bytes))
    agree.script
    (λ bytes. same_script (script_of bytes) (λ setup. after_rules finds.rules (versions_from plan.limits setup 0 finds.versions))
    (λ setup. after_rules (told_rules holds plan.rules) (versions_from plan.limits setup 0 (told_finds holds plan.versions)))
    (λ setup. same_rules holds plan.rules finds.rules (versions_from plan.limits setup 0 finds.versions) (versions_from plan.limits setup 0 (told_finds holds plan.versions)) agree.rules
    (same_versions plan.limits setup holds plan.versions finds.versions 0 agree.versions)))
    here there

same_live_script : (read : Result Setup Cause) (versions other : Setup → Prepared) → ((setup : Setup) → (IsUnread (versions setup) → ⊥) → (IsUnread (other setup) → ⊥) → versions setup ≡ other setup)
    → (IsUnread (after_live_script versions read) → ⊥) → (IsUnread (after_live_script other read) → ⊥) → after_live_script versions read ≡ after_live_script other read
same_live_script (Ok setup) versions other same here there = same setup here there
same_live_script (Err cause) versions other same here there = refl

-- the same of a script that may not be named
same_bare : (holds : List ℕ → Told) (name : Option (List ℕ)) (found : Found) (check other : List ℕ → Prepared) → AgreesOrBare holds name found
    → ((bytes : List ℕ) → (IsUnread (check bytes) → ⊥) → (IsUnread (other bytes) → ⊥) → check bytes ≡ other bytes)
    → (IsUnread (read_at Script found check) → ⊥) → (IsUnread (read_at Script (found_or_bare holds name) other) → ⊥) → read_at Script found check ≡ read_at Script (found_or_bare holds name) other
same_bare holds None found check other agree same here there =
    let whole = λ (e : found ≡ Whole bare_text). subst (λ (f : Found). (IsUnread (read_at Script f check) → ⊥) → read_at Script f check ≡ read_at Script (Whole bare_text) other) (sym e) (λ h. same bare_text h there) here in
    whole agree
same_bare holds (Some name) found check other agree same here there = same_at Script (holds name) found check other agree same here there

-- the same of a live run
pub same_live_prepared : (holds : List ℕ → Told) (service : Service) (finds : Finds) → AreLiveFound service holds finds
    → (IsUnread (live_prepared service.limits finds) → ⊥) → (IsUnread (live_prepared service.limits (live_finds_of holds service)) → ⊥)
    → live_prepared service.limits finds ≡ live_prepared service.limits (live_finds_of holds service)
same_live_prepared holds service finds agree here there =
    same_bare holds service.script finds.script
    (λ bytes. after_live_script (λ setup. after_rules finds.rules (versions_from service.limits setup 0 finds.versions)) (live_script bytes))
    (λ bytes. after_live_script (λ setup. after_rules (told_rules holds service.rules) (versions_from service.limits setup 0 (told_finds holds service.versions))) (live_script bytes))
    agree.script
    (λ bytes. same_live_script (live_script bytes) (λ setup. after_rules finds.rules (versions_from service.limits setup 0 finds.versions))
    (λ setup. after_rules (told_rules holds service.rules) (versions_from service.limits setup 0 (told_finds holds service.versions)))
    (λ setup. same_rules holds service.rules finds.rules (versions_from service.limits setup 0 finds.versions) (versions_from service.limits setup 0 (told_finds holds service.versions)) agree.rules
    (same_versions service.limits setup holds service.versions finds.versions 0 agree.versions)))
    here there
