-- A command with more arguments, and one without a help of its own.
use Rattle.std.proofs.Common.{◌≡◌, ℕ, ◌<◌, ◌+◌, ap, ◌∙◌, sym, true, List, [], ◌∷◌, ◌++◌, take, length, get_or, append_assoc}
use Rattle.std.proofs.lemmas.List.{take_more, map-append}
use Rattle.std.specs.Borrow.{Bor}
use Rattle.clap.specs.declared.builder.command.Command.{Command}
use Rattle.clap.specs.declared.builder.command.Command.TheViews.{out-Command}
use Rattle.clap.specs.Walk.{Rule, Text}
use Rattle.clap.specs.Simple.{App, Shape, app_of, app_of_fields, on_top, with_rule}
use Rattle.nv_driver.specs.Simple.{simple_app}
use Rattle.nv_driver.specs.Tables.{rule_by, rules_by, with_rules}
use Rattle.nv_driver.specs.declared.simple.Kind.{Kind}

abbrev having : App → List Rule → App
having app rules = on_top (λ top. record top { rules = rules }) app

abbrev rule_at : Bor Text × Kind → Rule
rule_at argument = rule_by argument.1 argument.0.now

module _ (arguments : List (Bor Text × Kind)) (i : ℕ) (d : Bor Text × Kind) (within : i < length arguments) where
  next : rules_by (take (i + 1) arguments) ≡ rules_by (take i arguments) ++ rule_at (get_or arguments i d) ∷ []
  next = ap rules_by (take_more arguments i d within) ∙ map-append rule_at (take i arguments) (get_or arguments i d ∷ [])

  -- one more argument of a table
  pub one_more : (new old app : App) (rule : Rule) → new ≡ with_rule old rule → old ≡ with_rules app (rules_by (take i arguments)) → rule ≡ rule_at (get_or arguments i d)
      → new ≡ with_rules app (rules_by (take (i + 1) arguments))
  one_more new old app rule is before rule_is =
      let kept = app.top.rules in
      let rules = rules_by (take i arguments) in
      is ∙ ap (λ (a : App). with_rule a rule) before ∙ ap (λ (r : Rule). having app ((kept ++ rules) ++ r ∷ [])) rule_is
      ∙ ap (having app) (append_assoc kept rules (rule_at (get_or arguments i d) ∷ []) ∙ ap (λ (more : List Rule). kept ++ more) (sym next))

-- a command with two tables of arguments
pub both : (new first second : App) (name : Text) (options rest : List Rule) → new ≡ simple_app name [] → first ≡ with_rules new options → second ≡ with_rules first rest
    → second ≡ simple_app name (options ++ rest)
both new first second name options rest is one two = two ∙ ap (λ (a : App). with_rules a rest) (one ∙ ap (λ (a : App). with_rules a options) is)

abbrev without_help : Shape → Shape
without_help shape = record shape { disable_help_flag = true }

pub helpless : (old new : Command) (app : App) → out-Command new ≡ record (out-Command old) { disable_help_flag = true } → app_of old ≡ app → app_of new ≡ on_top without_help app
helpless old new app set is = ap app_of_fields set ∙ ap (on_top without_help) is
