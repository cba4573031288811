-- What a grant that names no user looks at.
use Rattle.std.proofs.Common.{◌≡◌, ℕ, Bool, true, false, not, ◌||◌, ◌&&◌, Option, Some, None, refl, sym, ap, ◌∙◌}
use Rattle.std.specs.Prelude.{◌==◌, is_some, is_none}
use Rattle.std.proofs.lemmas.Bool.{and_from, false≢true}
use Rattle.capspec.specs.declared.grant.Grant.{Grant}
use Rattle.capgrant.specs.declared.access.Attr.{Attr}
use Rattle.capgrant.specs.declared.class.Class.{Class}
use Rattle.capgrant.specs.declared.class.Class.TheVariants.{Group, Other, Owner}
use Rattle.capgrant.specs.Class.{has_bit}
use Rattle.capgrant.specs.Access.{changes_attr, is_read, new_owner}
use Rattle.capgrant.specs.Question.{Question, class_of, is_owner}
use Rattle.capgrant.specs.Failing.{fails_fsname, fails_gids, fails_mode_bits, fails_no_p, fails_no_s, fails_no_write, fails_not_owner, fails_path}
use Rattle.capgrant.specs.Failing.{fails_root_squash, fails_uid, is_some_and}
use Rattle.capgrant.specs.Verdict.{allows}
use Rattle.policy_analysis.specs.Asking.{another}
use Rattle.policy_analysis.proofs.Passing.{PassesAttr, PassesBase, allowed, passes_all}
use Rattle.policy_analysis.proofs.Attr.{bit_for, else_changes, is_another, is_by_mode, mode_says, no_uid}
use Rattle.policy_analysis.specs.Left.{LooksAtNoInode, is_for_all}

none_of : (o : Option ℕ) → is_none o ≡ true → o ≡ None
none_of None is = refl
none_of (Some n) is = absurd (false≢true is)

some_of : (o : Option ℕ) → is_none o ≡ false → is_some o ≡ true
some_of None is = absurd (false≢true (sym is))
some_of (Some n) is = refl

-- the rules that look at no inode say the same of every one
same_base : (q : Question) (g : Grant) (attr : Attr) → PassesBase q g → PassesBase (record q { attr = attr }) g
unfolding fails_fsname fails_uid fails_gids fails_path fails_no_write fails_root_squash fails_no_p fails_no_s
same_base q g attr base = record { fsname = base.fsname; uid = base.uid; gids = base.gids; path = base.path; no_write = base.no_write; root_squash = base.root_squash; no_p = base.no_p; no_s = base.no_s }

pub looks_at_none : (q : Question) (g : Grant) → allows q g ≡ true → is_for_all g ≡ true → LooksAtNoInode q g
looks_at_none q g allows' none attr =
    let asked = record q { attr = attr } in
    allowed asked g (same_base q g attr (passes_all q g allows').base) (no_uid asked g (none_of g.uid none))

-- another's inode of mode 0, which a grant with a uid denies
abbrev unowned : Question → Question
unowned q = record q { attr = record { uid = another q.caller.uid; gid = 0; mode = 0 } }

no_bit : (read : Bool) (class : Class) → has_bit 0 (bit_for read class) ≡ false
no_bit true Owner = refl
no_bit true Group = refl
no_bit true Other = refl
no_bit false Owner = refl
no_bit false Group = refl
no_bit false Other = refl

by_bits_denied : (q : Question) (g : Grant) → is_by_mode q.access ≡ true → is_some g.uid ≡ true → fails_mode_bits (unowned q) g ≡ true
by_bits_denied q g by some =
    let bit = bit_for (is_read q.access) (class_of (unowned q) g) in
    mode_says (unowned q) g by ∙ and_from (is_some g.uid) (not (has_bit 0 bit)) some (ap not (no_bit (is_read q.access) (class_of (unowned q) g)))

by_owner_denied : (q : Question) (g : Grant) → changes_attr q.access ≡ true → is_some g.uid ≡ true → fails_not_owner (unowned q) g ≡ true
unfolding fails_not_owner
by_owner_denied q g changes some =
    let gives = is_some_and (λ uid. not (uid == q.caller.uid)) (new_owner q.access) in
    and_from (is_some g.uid && changes_attr q.access) (not (is_owner (unowned q)) || gives) (and_from (is_some g.uid) (changes_attr q.access) some changes) (ap (λ (b : Bool). not b || gives) (is_another q.caller.uid))

denied : (q : Question) (g : Grant) → is_some g.uid ≡ true → PassesAttr (unowned q) g → false ≡ true
denied q g some passes = by_case (is_by_mode q.access) refl
  where
    by_case : (b : Bool) → is_by_mode q.access ≡ b → false ≡ true
    by_case true by = sym passes.mode_bits ∙ by_bits_denied q g by some
    by_case false by = sym passes.not_owner ∙ by_owner_denied q g (else_changes q.access by) some

pub names_none : (q : Question) (g : Grant) → LooksAtNoInode q g → is_for_all g ≡ true
names_none q g all = by_uid (is_none g.uid) refl
  where
    by_uid : (b : Bool) → is_none g.uid ≡ b → b ≡ true
    by_uid true is = refl
    by_uid false is = denied q g (some_of g.uid is) (passes_all (unowned q) g (all (unowned q).attr)).attr
