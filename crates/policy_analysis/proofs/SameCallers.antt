-- A grant allows the same to callers who differ in the order of their groups alone.
use Rattle.std.proofs.Common.{◌≡◌, ℕ, Bool, true, not, ◌||◌, ◌&&◌, cond, Option, Some, None, refl, sym, ap, ◌∙◌}
use Rattle.std.specs.Prelude.{is_some, ◌==◌}
use Rattle.capbits.specs.declared.caller.Caller.{Caller}
use Rattle.capbits.specs.Caller.{gids_of}
use Rattle.capspec.specs.declared.grant.Grant.{Grant}
use Rattle.capgrant.specs.declared.class.Class.{Class}
use Rattle.capgrant.specs.declared.class.Class.TheVariants.{Group, Other, Owner}
use Rattle.capgrant.specs.Access.{changes_attr, new_group, new_owner}
use Rattle.capgrant.specs.Class.{has_bit, needed_bit}
use Rattle.capgrant.specs.Failing.{fails_fsname, fails_mode_bits, fails_not_own_group, fails_not_owner, fails_path, fails_uid, is_some_and}
use Rattle.capgrant.specs.Question.{Question, class_of, contains, listed_gids}
use Rattle.capgrant.specs.Verdict.{allows}
use Rattle.capgrant.proofs.Listed.{contains_listed}
use Rattle.policy_analysis.specs.ComparingBy.{IsSameAs}
use Rattle.policy_analysis.proofs.Directories.{same_answer}
use Rattle.policy_analysis.proofs.Passing.{Passes, PassesAttr, PassesBase, allowed, passes_all}
use Rattle.policy_analysis.proofs.Rules.{gids_stay, same_no_p, same_no_s, same_no_write, same_root_squash}

same_some : (o : Option ℕ) (f h : ℕ → Bool) → ((n : ℕ) → f n ≡ h n) → is_some_and f o ≡ is_some_and h o
same_some None f h same = refl
same_some (Some n) f h same = same n

-- what it allows one it allows the other
module _ (q : Question) (c : Caller) (same : IsSameAs q.caller c) (h : Grant) where
  abbrev by_other : Question
  by_other = record q { caller = c }

  gids : (n : ℕ) → contains (gids_of c) n ≡ contains (gids_of q.caller) n
  gids n = λ i. (same.gid i == n) || same.groups n i

  listed : (n : ℕ) → contains (listed_gids c h) n ≡ contains (listed_gids q.caller h) n
  listed n = contains_listed c h n ∙ ap (λ (b : Bool). contains h.gids n && b) (gids n) ∙ sym (contains_listed q.caller h n)

  class : class_of by_other h ≡ class_of q h
  class = λ i. cond (same.uid i == q.attr.uid) Owner (cond (listed q.attr.gid i) Group Other)

  base_too : PassesBase q h → PassesBase by_other h
  unfolding fails_fsname fails_uid fails_path
  base_too p = record {
    fsname = p.fsname;
    uid = ap (λ (n : ℕ). is_some_and (λ u. not (u == n)) h.uid) same.uid ∙ p.uid;
    gids = gids_stay q by_other h (λ n of is. gids n ∙ of) p.gids;
    path = p.path;
    no_write = same_no_write by_other q h refl ∙ p.no_write;
    root_squash = same_root_squash by_other q h refl (λ i. (same.uid i == 0) || (same.gid i == 0)) ∙ p.root_squash;
    no_p = same_no_p by_other q h refl ∙ p.no_p;
    no_s = same_no_s by_other q h refl ∙ p.no_s;
  }

  attr_too : PassesAttr q h → PassesAttr by_other h
  unfolding fails_not_owner fails_not_own_group fails_mode_bits
  attr_too p = record {
    not_owner = ap (λ (n : ℕ). is_some h.uid && changes_attr q.access && (not (n == q.attr.uid) || is_some_and (λ u. not (u == n)) (new_owner q.access))) same.uid ∙ p.not_owner;
    not_own_group = ap (λ (b : Bool). is_some h.uid && b) (same_some (new_group q.access) (λ n. not (contains (listed_gids c h) n)) (λ n. not (contains (listed_gids q.caller h) n)) (λ n. ap not (listed n))) ∙ p.not_own_group;
    mode_bits = ap (λ (of : Class). is_some h.uid && is_some_and (λ bit. not (has_bit q.attr.mode bit)) (needed_bit q.access of)) class ∙ p.mode_bits;
  }

  allows_too : allows q h ≡ true → allows by_other h ≡ true
  allows_too e = let p : Passes q h = passes_all q h e in allowed by_other h (base_too p.base) (attr_too p.attr)

-- and no more
pub same_allows : (q : Question) (c : Caller) → IsSameAs q.caller c → (h : Grant) → allows (record q { caller = c }) h ≡ allows q h
same_allows q c same h =
    same_answer (allows (record q { caller = c }) h) (allows q h)
    (allows_too (record q { caller = c }) q.caller (record { uid = sym same.uid; gid = sym same.gid; groups = λ n. sym (same.groups n) }) h)
    (allows_too q c same h)
