use Rattle.std.proofs.Common.{◌≡◌, Bool, true, false, Option, None, Some, List, ℕ, length, refl, rules, sym, ◌∙◌}
use Rattle.std.specs.Prelude.{◌==◌, codes}
use Rattle.queries.specs.Cuts.{behind_front, cut_first}
use Rattle.queries.specs.Checks.{head_in, may_stand_before}
use Rattle.queries.proofs.check.read_head.Goals as goal

abbrev may : List ℕ → Bool
may front = may_stand_before (codes "10 MDSAuthCap ") front

abbrev cut : List ℕ → Option (List ℕ × List ℕ)
cut text = cut_first (codes " inode(path ") text

not_there : (front text : List ℕ) → may front ≡ false → head_in (front, text) ≡ None
not_there front text other = rw other refl

no_inode : (front text : List ℕ) → may front ≡ true → cut text ≡ None → head_in (front, text) ≡ None
no_inode front text first none = rw (first, none) refl

without_name : (front text before parts : List ℕ) → may front ≡ true → cut text ≡ Some (before, parts) → (length before == 0) ≡ true → head_in (front, text) ≡ Some (None, parts)
without_name front text before parts first is empty = rw (first, is, empty) refl

no_name : (front text before parts : List ℕ) → may front ≡ true → cut text ≡ Some (before, parts) → (length before == 0) ≡ false → behind_front (codes "fs_name ") before ≡ None → head_in (front, text) ≡ None
no_name front text before parts first is some none = rw (first, is, some, none) refl

with_name : (front text before parts name : List ℕ) → may front ≡ true → cut text ≡ Some (before, parts) → (length before == 0) ≡ false → behind_front (codes "fs_name ") before ≡ Some name → head_in (front, text) ≡ Some (Some name, parts)
with_name front text before parts name first is some named = rw (first, is, some, named) refl

pub returns-then-not-may_stand_before : goal.returns-then-not-may_stand_before
returns-then-not-may_stand_before c = sym (not_there c.args.front.now c.args.text.now (sym c.may_stand_before.ensures ∙ c.if-not-may_stand_before.true))

pub returns-in_err-front : goal.returns-in_err-front
returns-in_err-front c =
    rw c.from_residual.ensures (sym (no_inode c.args.front.now c.args.text.now (sym c.may_stand_before.ensures ∙ c.if-not-may_stand_before.false) c.in_err-front.ensures))

pub returns-then-is_empty : goal.returns-then-is_empty
returns-then-is_empty c =
    sym (without_name c.args.front.now c.args.text.now _ _ (sym c.may_stand_before.ensures ∙ c.if-not-may_stand_before.false) c.in_ok-front.ensures (search rules))

pub returns-in_err-fs : goal.returns-in_err-fs
returns-in_err-fs c =
    rw c.from_residual-in_err-fs.ensures
    (sym (no_name c.args.front.now c.args.text.now _ _ (sym c.may_stand_before.ensures ∙ c.if-not-may_stand_before.false) c.in_ok-front.ensures (search rules) (sym c.in_err-fs.ensures)))

pub returns : goal.returns
returns c =
    sym (with_name c.args.front.now c.args.text.now _ _ _ (sym c.may_stand_before.ensures ∙ c.if-not-may_stand_before.false) c.in_ok-front.ensures (search rules) (sym c.in_ok-fs.ensures))
