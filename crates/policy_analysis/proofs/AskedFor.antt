-- What is known where all that is asked for a grant is asked.
use Rattle.std.proofs.Common.{◌≡◌, ℕ, ◌≤◌, ◌<◌, arith, Bool, true, false, Option, Some, None, List, length, take, sym, ap, ◌∙◌, subst}
use Rattle.std.specs.Prelude.{◌==◌, All, IfNone}
use Rattle.std.proofs.lemmas.Bool.{both_ways, eqb-true}
use Rattle.capbits.specs.declared.caller.Caller.{Caller}
use Rattle.capspec.specs.declared.grant.Grant.{Grant}
use Rattle.policy_analysis.specs.declared.asking.Found.{Found}
use Rattle.policy_analysis.specs.Asking.{CoversGrant, IsSettingFor, NoneFor, Setting, caller_of, gid_for, uid_for, with_group}
use Rattle.policy_analysis.proofs.Loops.{all_of}
use Rattle.policy_analysis.proofs.Covering.{covers_grant, covers_no_root}

-- who asks
pub record IsAsker (s : Setting) (g : Grant) (root : Bool) (nobody uid gid : ℕ) (asker : Caller) : Type 0 where
  pub nobody_is : nobody ≡ s.nobody
  pub uid_is : uid ≡ uid_for g root nobody
  pub gid_is : gid ≡ gid_for uid root nobody
  pub asker_is : asker ≡ caller_of uid gid

base : Setting → Grant → Bool → Caller
base s g root = caller_of (uid_for g root s.nobody) (gid_for (uid_for g root s.nobody) root s.nobody)

uid_of_setting : (s : Setting) (g : Grant) (root : Bool) (nobody uid : ℕ) → nobody ≡ s.nobody → uid ≡ uid_for g root nobody → uid ≡ uid_for g root s.nobody
uid_of_setting s g root nobody uid same is = is ∙ ap (uid_for g root) same

asker_is_base : (s : Setting) (g : Grant) (root : Bool) (nobody uid gid : ℕ) (asker : Caller) → IsAsker s g root nobody uid gid asker → asker ≡ base s g root
unfolding base
asker_is_base s g root nobody uid gid asker is =
    let uid_is : uid ≡ uid_for g root s.nobody = uid_of_setting s g root nobody uid is.nobody_is is.uid_is in
    is.asker_is
    ∙ ap (caller_of uid) (is.gid_is ∙ ap (gid_for uid root) is.nobody_is)
    ∙ ap (λ (u : ℕ). caller_of u (gid_for u root s.nobody)) uid_is

pub after_each : (s : Setting) (g : Grant) (root : Bool) (nobody uid gid : ℕ) (asker : Caller) (gids : List ℕ) (i : ℕ) → IsSettingFor s g → IsAsker s g root nobody uid gid asker → gids ≡ g.gids → (root ≡ false → (uid == 0) ≡ false) → (length gids == 0) ≡ false → length gids ≤ i → All (λ own. NoneFor s g (with_group asker own) own) (take i gids) → CoversGrant s.accesses s.old root g
unfolding base
after_each s g root nobody uid gid asker gids i fits is gids_are plain some end all =
    covers_grant s g root fits
    (λ root_is. ap (λ (u : ℕ). u == 0) (sym (uid_of_setting s g root nobody uid is.nobody_is is.uid_is)) ∙ plain root_is)
    (λ empty. absurd (both_ways (length gids == 0) some (ap (λ (xs : List ℕ). length xs == 0) gids_are ∙ empty)))
    (subst (λ (c : Caller). All (λ own. NoneFor s g (with_group c own) own) g.gids) (asker_is_base s g root nobody uid gid asker is)
    (subst (λ (xs : List ℕ). All (λ own. NoneFor s g (with_group asker own) own) xs) gids_are (all_of (λ own. NoneFor s g (with_group asker own) own) gids i end all)))

pub after_one : (s : Setting) (g : Grant) (root : Bool) (nobody uid gid : ℕ) (asker : Caller) (gids : List ℕ) (found : Option Found) → IsSettingFor s g → IsAsker s g root nobody uid gid asker → gids ≡ g.gids → (root ≡ false → (uid == 0) ≡ false) → (length gids == 0) ≡ true → IfNone found (NoneFor s g asker nobody) → IfNone found (CoversGrant s.accesses s.old root g)
unfolding base
after_one s g root nobody uid gid asker gids (Some found) fits is gids_are plain none nothing = nothing
after_one s g root nobody uid gid asker gids None fits is gids_are plain none nothing =
    covers_grant s g root fits
    (λ root_is. ap (λ (u : ℕ). u == 0) (sym (uid_of_setting s g root nobody uid is.nobody_is is.uid_is)) ∙ plain root_is)
    (λ empty. subst (λ (c : Caller). NoneFor s g c s.nobody) (asker_is_base s g root nobody uid gid asker is) (subst (λ (n : ℕ). NoneFor s g asker n) is.nobody_is nothing))
    (λ k d less. absurd (empty_list g.gids (ap (λ (xs : List ℕ). length xs == 0) (sym gids_are) ∙ none) k less))
  where
    empty_list : (xs : List ℕ) → (length xs == 0) ≡ true → (k : ℕ) → k < length xs → ⊥
    empty_list xs empty k less = let none : length xs ≡ 0 = eqb-true (length xs) 0 empty in absurd (omega arith)

pub root_alone : (s : Setting) (g : Grant) (root : Bool) (nobody uid : ℕ) → IsSettingFor s g → nobody ≡ s.nobody → uid ≡ uid_for g root nobody → root ≡ false → uid ≡ 0 → CoversGrant s.accesses s.old root g
root_alone s g root nobody uid fits same is plain zero = covers_no_root s g root fits plain (sym (uid_of_setting s g root nobody uid same is) ∙ zero)
