use Rattle.std.proofs.Common.{◌≡◌, ℕ, Option, None, Some, List, [], ◌∷◌, refl, subst, sym}
use Rattle.std.specs.Prelude.{option_map}
use Rattle.std.proofs.lemmas.Result.{IfOk-weaker}
use Rattle.release_rules.specs.declared.release.Release.{Release}
use Rattle.queries.specs.Before.{BeforeTexts, GivenTexts, before_texts_of, given_of, given_texts_of, known_of}
use Rattle.queries.specs.Checks.{CheckTexts, HeadTexts, check_of, head_in, texts_of}
use Rattle.queries.specs.Reported.{Says, SaysBehind, SaysBy, SaysIf, SaysThere, Scope, scope_of}
use Rattle.queries.specs.Told.{Told}
use Rattle.queries.specs.Told.Told.{formless}
use Rattle.queries.proofs.LogTold.{Tells, one_told}
use Rattle.queries.proofs.log_text.print_between.Goals as goal

-- what is said of a check is said by its head and its parts
behind_head : (scope : Scope) (before : Option BeforeTexts) (head : Option HeadTexts) (name : Option (List ℕ)) (parts : List ℕ) (check : CheckTexts) (given : GivenTexts) (told : List Told)
    → Some (name, parts) ≡ head → check_of parts ≡ Some check → given ≡ given_of scope.fs name (known_of check before) check → SaysBy scope.release given check told → SaysBehind scope before head told
behind_head scope before head name parts check given told is form asks says =
    subst (λ (h : Option HeadTexts). SaysBehind scope before h told) is
    (subst (λ (c : Option CheckTexts). SaysIf scope name before c told) (sym form) (subst (λ (g : GivenTexts). SaysBy scope.release g check told) asks says))

-- or that it has another form
formless_behind : (scope : Scope) (before : Option BeforeTexts) (head : Option HeadTexts) (name : Option (List ℕ)) (parts : List ℕ) → Some (name, parts) ≡ head → check_of parts ≡ None → SaysBehind scope before head (formless ∷ [])
formless_behind scope before head name parts is none =
    subst (λ (h : Option HeadTexts). SaysBehind scope before h (formless ∷ [])) is (subst (λ (c : Option CheckTexts). SaysIf scope name before c (formless ∷ [])) (sym none) refl)

pub returns-in_default : goal.returns-in_default
returns-in_default c =
    let scope = scope_of c.args.line.scope in
    let before = option_map before_texts_of c.args.before in
    one_told scope c.args.line.number c.args.reported.now.items c.print_told.new.reported.items formless
    (SaysBehind scope before (head_in (c.args.front.now, c.args.text.now))) c.print_told.result
    (subst (λ (h : Option HeadTexts). SaysBehind scope before h (formless ∷ [])) c.in_default.ensures refl)
    c.print_told.ensures.printed c.print_told.ensures.judged

pub returns-in_default-read_check : goal.returns-in_default-read_check
returns-in_default-read_check c =
    let scope = scope_of c.args.line.scope in
    let before = option_map before_texts_of c.args.before in
    one_told scope c.args.line.number c.args.reported.now.items c.print_told-in_default-read_check.new.reported.items formless
    (SaysBehind scope before (head_in (c.args.front.now, c.args.text.now))) c.print_told-in_default-read_check.result
    (formless_behind scope before _ _ c.in-Some.head.parts.now c.in-Some.ensures c.in_default-read_check.ensures)
    c.print_told-in_default-read_check.ensures.printed c.print_told-in_default-read_check.ensures.judged

pub returns-in-Some-release : goal.returns-in-Some-release
returns-in-Some-release c =
    let scope = scope_of c.args.line.scope in
    let number = c.args.line.number in
    let before = option_map before_texts_of c.args.before in
    let given = given_texts_of c.given_for-given.result in
    let check = texts_of c.in-Some-read_check.check in
    let old = c.args.reported.now.items in
    let new = c.print_by_release.new.reported.items in
    IfOk-weaker c.print_by_release.result (Tells scope number old new (SaysThere c.in-Some-release.release given check)) (Tells scope number old new (SaysBehind scope before (head_in (c.args.front.now, c.args.text.now))))
    (λ judged says. (
      says.0,
      says.1,
      behind_head scope before _ _ c.in-Some.head.parts.now check given says.0 c.in-Some.ensures c.in-Some-read_check.ensures c.given_for-given.ensures
          (subst (λ (release : Option Release). SaysBy release given check says.0) (sym c.in-Some-release.is) says.2),
      says.3,
    )) c.print_by_release.ensures

pub returns-in-None : goal.returns-in-None
returns-in-None c =
    let scope = scope_of c.args.line.scope in
    let number = c.args.line.number in
    let before = option_map before_texts_of c.args.before in
    let given = given_texts_of c.given_for-given.result in
    let check = texts_of c.in-Some-read_check.check in
    let old = c.args.reported.now.items in
    let new = c.print_check.new.reported.items in
    IfOk-weaker c.print_check.result (Tells scope number old new (Says given check)) (Tells scope number old new (SaysBehind scope before (head_in (c.args.front.now, c.args.text.now))))
    (λ judged says. (
      says.0,
      says.1,
      behind_head scope before _ _ c.in-Some.head.parts.now check given says.0 c.in-Some.ensures c.in-Some-read_check.ensures c.given_for-given.ensures
          (subst (λ (release : Option Release). SaysBy release given check says.0) (sym c.in-None.is) says.2),
      says.3,
    )) c.print_check.ensures
