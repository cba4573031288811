-- Which questions of owners stand for all that a grant lets an owner do.
use Rattle.std.proofs.Common.{◌≡◌, ℕ, true, false, not, ◌||◌, ◌⊎◌, inl, inr, Option, Some, None, List, [], ◌∷◌, length, get_or, refl, sym, ap, ◌∙◌}
use Rattle.std.specs.Prelude.{◌==◌, ◌≢◌, All, Contains, unwrap_or}
use Rattle.std.specs.List.{starts_with}
use Rattle.std.specs.Str.{bytes_eq}
use Rattle.std.proofs.lemmas.Bool.{both_ways, eq-eqb, eqb-true, not-false, not_from_true, or_cases, or_left, or_right}
use Rattle.std.proofs.lemmas.List.Folds.{list_any_at}
use Rattle.std.proofs.lemmas.Slice.Eq.{bytes_eq-Decides}
use Rattle.capbits.specs.declared.caller.Caller.{Caller}
use Rattle.capbits.specs.Caller.{gids_of}
use Rattle.capspec.specs.declared.grant.Grant.{Grant}
use Rattle.capgrant.specs.declared.class.Class.TheVariants.{Owner}
use Rattle.capgrant.specs.Failing.{fails_fsname, fails_gids, fails_no_p, fails_no_s, fails_no_write, fails_path, fails_root_squash, fails_uid, is_some_and}
use Rattle.capgrant.specs.Question.{Question, contains, listed_gids}
use Rattle.capgrant.specs.Verdict.{allows, granted}
use Rattle.policy_analysis.specs.Asking.{caller_of, with_group}
use Rattle.policy_analysis.specs.Free.{NoneAreFor, NoneLists, NoneNames}
use Rattle.policy_analysis.specs.Vxattrs.{CoversOwnersOf, as_owner, asks, asks_own, owner_of}
use Rattle.policy_analysis.proofs.Attr.{class_owner, gids_with, no_uid_passes, owner_has, passes_by_mode, uid_of, uid_passes}
use Rattle.policy_analysis.proofs.Lists.{holds_of, passes_other}
use Rattle.policy_analysis.proofs.Passing.{Passes, PassesAttr, PassesBase, allowed, passes_all}
use Rattle.policy_analysis.proofs.Rules.{fs_stays, gids_pass, gids_passed, gids_stay, is_listed, path_itself, path_stays}

-- an owner's inode passes the rules on it
pub owner_passes_attr : (q : Question) (h : Grant) → PassesAttr (as_owner q) h
owner_passes_attr q h = passes_by_mode (as_owner q) h Owner refl (class_owner (as_owner q) h (eq-eqb q.caller.uid q.caller.uid refl)) (owner_has true)

-- who reads passes the rules on flags and root
reads_base : (q : Question) (h : Grant) → fails_fsname (as_owner q) h ≡ false → fails_uid (as_owner q) h ≡ false → fails_gids (as_owner q) h ≡ false → fails_path (as_owner q) h ≡ false → PassesBase (as_owner q) h
unfolding fails_no_write fails_root_squash fails_no_p fails_no_s
reads_base q h fsname uid gids path = record { fsname = fsname; uid = uid; gids = gids; path = path; no_write = refl; root_squash = refl; no_p = refl; no_s = refl }

-- ---- one question

module _ (old : List Grant) (free : List ℕ) (nobody : ℕ) (g : Grant) (unnamed : NoneNames free old) (unlisted : NoneLists nobody old) (unused : NoneAreFor nobody old) where
  module _ (q : Question) (passes : Passes (as_owner q) g) (c : Caller) (uid : c.uid ≡ unwrap_or g.uid nobody) (gids : (n : ℕ) → contains (gids_of c) n ≡ true → (contains (gids_of q.caller) n ≡ true) ⊎ (n ≡ nobody)) where
    abbrev asked : Question
    asked = asks free nobody g c

    same_fs : (h : Grant) → h.fsname ≢ Some free → fails_fsname asked h ≡ false → fails_fsname (as_owner q) h ≡ false
    unfolding fails_fsname
    same_fs h other e = by_name g.fsname refl (fs_passed)
      where
        fs_passed : fails_fsname (as_owner q) g ≡ false
        fs_passed = passes.base.fsname

        by_name : (name : Option (List ℕ)) → g.fsname ≡ name → is_some_and (λ n. not (bytes_eq n q.fs)) g.fsname ≡ false → is_some_and (λ n. not (bytes_eq n q.fs)) h.fsname ≡ false
        by_name None none passed = fs_stays h.fsname free q.fs (inl other) (rw none at e)
        by_name (Some n) some passed = fs_stays h.fsname n q.fs (inr (name_is n (rw some at passed))) (rw some at e)
          where
            name_is : (n : List ℕ) → not (bytes_eq n q.fs) ≡ false → n ≡ q.fs
            name_is n passed = (bytes_eq-Decides n q.fs).0 (not-false (bytes_eq n q.fs) passed)

    same_user : (h : Grant) → h.uid ≢ Some nobody → fails_uid asked h ≡ false → fails_uid (as_owner q) h ≡ false
    same_user h other e = by_uid h.uid refl
      where
        by_own : (v : ℕ) → h.uid ≡ Some v → (o : Option ℕ) → g.uid ≡ o → v ≡ q.caller.uid
        by_own v some None none = absurd (other (some ∙ ap Some (uid_of asked h v some e ∙ uid ∙ ap (λ (u : Option ℕ). unwrap_or u nobody) none)))
        by_own v some (Some u) named = uid_of asked h v some e ∙ uid ∙ ap (λ (o : Option ℕ). unwrap_or o nobody) named ∙ uid_of (as_owner q) g u named passes.base.uid

        by_uid : (o : Option ℕ) → h.uid ≡ o → fails_uid (as_owner q) h ≡ false
        by_uid None none = no_uid_passes (as_owner q) h none
        by_uid (Some v) some = uid_passes (as_owner q) h v some (by_own v some g.uid refl)

    same_gids : (h : Grant) → contains h.gids nobody ≡ false → fails_gids asked h ≡ false → fails_gids (as_owner q) h ≡ false
    same_gids h none e = gids_stay asked (as_owner q) h (λ n of listed. by_case n (gids n of) listed) e
      where
        by_case : (n : ℕ) → (contains (gids_of q.caller) n ≡ true) ⊎ (n ≡ nobody) → contains h.gids n ≡ true → contains (gids_of q.caller) n ≡ true
        by_case n (inl of) listed = of
        by_case n (inr is) listed = absurd (both_ways (contains h.gids n) (ap (contains h.gids) is ∙ none) listed)

    same_path : (h : Grant) → fails_path asked h ≡ false → fails_path (as_owner q) h ≡ false
    unfolding fails_path
    same_path h e =
        let own : starts_with bytes_eq q.path g.path ≡ true = not-false (starts_with bytes_eq q.path g.path) own_path in
        let below : starts_with bytes_eq g.path h.path ≡ true = not-false (starts_with bytes_eq g.path h.path) e in
        not_from_true (starts_with bytes_eq q.path h.path) (path_stays q.path g.path h.path own below)
      where
        own_path : fails_path (as_owner q) g ≡ false
        own_path = passes.base.path

    stays : (h : Grant) → h.fsname ≢ Some free → contains h.gids nobody ≡ false → h.uid ≢ Some nobody → allows asked h ≡ true → allows (as_owner q) h ≡ true
    stays h other none unused allowing =
        let p : Passes asked h = passes_all asked h allowing in
        allowed (as_owner q) h (reads_base q h (same_fs h other p.base.fsname) (same_user h unused p.base.uid) (same_gids h none p.base.gids) (same_path h p.base.path)) (owner_passes_attr q h)

    pub stays_granted : granted asked old ≡ true → granted (as_owner q) old ≡ true
    stays_granted some = passes_other (allows asked) (allows (as_owner q)) old (λ k d less. stays (get_or old k d) (unnamed k d less) (unlisted k d less) (unused k d less)) some

  -- ---- all that the grant allows

  abbrev base : Caller
  base = caller_of (unwrap_or g.uid nobody) nobody

  base_gids : (q : Question) (n : ℕ) → contains (gids_of base) n ≡ true → (contains (gids_of q.caller) n ≡ true) ⊎ (n ≡ nobody)
  base_gids q n of = inr (sym (only (or_cases (nobody == n) false of)))
    where
      only : ((nobody == n) ≡ true) ⊎ (false ≡ true) → nobody ≡ n
      only (inl is) = eqb-true nobody n is
      only (inr never) = absurd (both_ways false refl never)

  with_gids : (q : Question) (own : ℕ) → contains (gids_of q.caller) own ≡ true → (n : ℕ) → contains (gids_of (with_group base own)) n ≡ true → (contains (gids_of q.caller) n ≡ true) ⊎ (n ≡ nobody)
  with_gids q own of n in' = by_gid (or_cases (contains (gids_of base) n) (own == n) (sym (gids_with base own n) ∙ in'))
    where
      by_gid : (contains (gids_of base) n ≡ true) ⊎ ((own == n) ≡ true) → (contains (gids_of q.caller) n ≡ true) ⊎ (n ≡ nobody)
      by_gid (inl in') = base_gids q n in'
      by_gid (inr is) = inl (ap (contains (gids_of q.caller)) (sym (eqb-true own n is)) ∙ of)

  -- of a grant without gids one question is asked
  pub covers_by_one : (length g.gids == 0) ≡ true → granted (asks_own free nobody g []) old ≡ true → CoversOwnersOf old g
  covers_by_one none some q allowing = stays_granted q (passes_all (as_owner q) g allowing) base refl (base_gids q) some

  -- of another one in each of its groups
  pub covers_by_each : (length g.gids == 0) ≡ false → All (λ own. granted (asks_own free nobody g (own ∷ [])) old ≡ true) g.gids → CoversOwnersOf old g
  covers_by_each some each q allowing = by_gids (gids_passed (as_owner q) g passes.base.gids)
    where
      passes : Passes (as_owner q) g
      passes = passes_all (as_owner q) g allowing

      by_gids : ((length g.gids == 0) ≡ true) ⊎ ((n : ℕ) × (contains (gids_of q.caller) n ≡ true) × (contains g.gids n ≡ true)) → granted (as_owner q) old ≡ true
      by_gids (inl none) = absurd (both_ways (length g.gids == 0) some none)
      by_gids (inr one) =
          stays_granted q passes (with_group base one.0) refl (with_gids q one.0 one.1)
          (holds_of (λ own. granted (asks_own free nobody g (own ∷ [])) old ≡ true) g.gids one.0 each one.2)

-- ---- what was found

-- the grant allows its own question, in no group where it lists none, else in one that it lists
own_allows : (free : List ℕ) (nobody : ℕ) (g : Grant) (c : Caller) → c.uid ≡ unwrap_or g.uid nobody → ((length g.gids == 0) ≡ true) ⊎ ((length (listed_gids c g) == 0) ≡ false) → allows (asks free nobody g c) g ≡ true
unfolding fails_fsname fails_path
own_allows free nobody g c uid listed =
    allowed (asks free nobody g c) g (reads_base (asks free nobody g c) g (by_name g.fsname) (by_uid g.uid refl) (gids_pass (asks free nobody g c) g listed) (not_from_true (starts_with bytes_eq g.path g.path) (path_itself g.path g.path refl))) (owner_passes_attr (asks free nobody g c) g)
  where
    by_name : (name : Option (List ℕ)) → is_some_and (λ n. not (bytes_eq n (unwrap_or name free))) name ≡ false
    by_name None = refl
    by_name (Some n) = not_from_true (bytes_eq n n) ((bytes_eq-Decides n n).1 refl)

    by_uid : (o : Option ℕ) → g.uid ≡ o → fails_uid (asks free nobody g c) g ≡ false
    by_uid None none = no_uid_passes (asks free nobody g c) g none
    by_uid (Some u) some = uid_passes (asks free nobody g c) g u some (sym (uid ∙ ap (λ (o : Option ℕ). unwrap_or o nobody) some))

pub new_allows : (new : List Grant) (free : List ℕ) (nobody : ℕ) (g : Grant) (c : Caller) → Contains new g → c.uid ≡ unwrap_or g.uid nobody → ((length g.gids == 0) ≡ true) ⊎ ((length (listed_gids c g) == 0) ≡ false) → granted (asks free nobody g c) new ≡ true
new_allows new free nobody g c among uid listed =
    list_any_at (allows (asks free nobody g c)) new among.0 g among.1 (ap (allows (asks free nobody g c)) among.2 ∙ own_allows free nobody g c uid listed)

-- in one group that it lists
pub in_one : (nobody : ℕ) (g : Grant) (own : ℕ) → contains g.gids own ≡ true → (length (listed_gids (owner_of nobody g (own ∷ [])) g) == 0) ≡ false
in_one nobody g own listed = is_listed (owner_of nobody g (own ∷ [])) g own (or_right (nobody == own) ((own == own) || false) (or_left (own == own) false (eq-eqb own own refl))) listed
