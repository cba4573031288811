-- A question that is changed so that a grant still allows it and no old grant allows more.
use Rattle.std.proofs.Common.{◌≡◌, ℕ, Bool, true, false, ◌⊎◌, inl, inr, Some, length, refl, sym, ap, ◌∙◌, get_or}
use Rattle.std.specs.Prelude.{◌==◌, ◌≢◌, All}
use Rattle.std.specs.List.{starts_with}
use Rattle.std.specs.Str.{bytes_eq}
use Rattle.std.proofs.lemmas.Bool.{both_ways, not-false, not_from_true}
use Rattle.std.proofs.lemmas.List.Folds.{list_any_at}
use Rattle.capbits.specs.declared.caller.Caller.{Caller}
use Rattle.capbits.specs.Caller.{gids_of}
use Rattle.capspec.specs.declared.grant.Grant.{Grant}
use Rattle.capgrant.specs.declared.access.Access.{Access}
use Rattle.capgrant.specs.declared.access.Attr.{Attr}
use Rattle.capgrant.specs.Access.{is_read, is_set_vxattr, is_snapshot}
use Rattle.capgrant.specs.Question.{Question, contains, listed_gids}
use Rattle.capgrant.specs.Failing.{fails_fsname, fails_gids, fails_path, fails_uid}
use Rattle.capgrant.specs.Verdict.{allows, granted}
use Rattle.policy_analysis.specs.Comparing.{is_root}
use Rattle.policy_analysis.specs.Asking.{IsSettingFor, Setting, asked, is_gained, is_wanted}
use Rattle.policy_analysis.proofs.Lists.{passes_other}
use Rattle.policy_analysis.proofs.Passing.{Passes, PassesAttr, PassesBase, allowed, passes_all}
use Rattle.policy_analysis.proofs.Rules.{fs_for_each, fs_named, fs_stays, gids_pass, gids_stay, path_itself, path_stays, same_no_p, same_no_s, same_no_write}
use Rattle.policy_analysis.proofs.Rules.{same_root_squash}

-- the caller stands for the one of the question: as much root, in no more listed groups, and in one that the grant lists
pub record StandsFor (s : Setting) (g : Grant) (q : Question) (c : Caller) : Type 0 where
  pub root : is_root c ≡ is_root q.caller
  pub gids : (n : ℕ) → contains (gids_of c) n ≡ true → (contains (gids_of q.caller) n ≡ true) ⊎ (n ≡ s.nobody)
  pub listed : ((length g.gids == 0) ≡ true) ⊎ ((length (listed_gids c g) == 0) ≡ false)

-- the rules on the flags and root take the two accesses alike
pub record IsAlike (a' a : Access) : Type 0 where
  pub read : is_read a' ≡ is_read a
  pub vxattr : is_set_vxattr a' ≡ is_set_vxattr a
  pub snapshot : is_snapshot a' ≡ is_snapshot a

module _ (s : Setting) (g : Grant) (q : Question) (c : Caller) (attr : Attr) (a : Access) (fits : IsSettingFor s g) (passes : Passes q g) (like : StandsFor s g q c) (alike : IsAlike a q.access) where
  file_system : (h : Grant) → (h.fsname ≢ Some s.fs) ⊎ (s.fs ≡ q.fs) → fails_fsname (asked s c attr a) h ≡ false → fails_fsname q h ≡ false
  unfolding fails_fsname
  file_system h either e = fs_stays h.fsname s.fs q.fs either e

  own_file_system : fails_fsname (asked s c attr a) g ≡ false
  unfolding fails_fsname
  own_file_system = fs_named _ g.fsname s.fs fits.fs

  each_file_system : All (λ h. (h.fsname ≢ Some s.fs) ⊎ (s.fs ≡ q.fs)) s.old
  unfolding fails_fsname
  each_file_system = fs_for_each g.fsname s.fs q.fs s.old fits.fs passes.base.fsname

  path : (h : Grant) → fails_path (asked s c attr a) h ≡ false → fails_path q h ≡ false
  unfolding fails_path
  path h e =
      let own : starts_with bytes_eq q.path g.path ≡ true = not-false (starts_with bytes_eq q.path g.path) passes.base.path in
      let below : starts_with bytes_eq s.path h.path ≡ true = not-false (starts_with bytes_eq s.path h.path) e in
      not_from_true (starts_with bytes_eq q.path h.path) (path_stays q.path g.path h.path own (rw fits.path at below))

  own_path : fails_path (asked s c attr a) g ≡ false
  unfolding fails_path
  own_path = not_from_true (starts_with bytes_eq s.path g.path) (path_itself s.path g.path fits.path)

  gids : (h : Grant) → contains h.gids s.nobody ≡ false → fails_gids (asked s c attr a) h ≡ false → fails_gids q h ≡ false
  gids h nobody e = gids_stay (asked s c attr a) q h (λ n of listed. by_case n (like.gids n of) listed) e
    where
      by_case : (n : ℕ) → (contains (gids_of q.caller) n ≡ true) ⊎ (n ≡ s.nobody) → contains h.gids n ≡ true → contains (gids_of q.caller) n ≡ true
      by_case n (inl of) listed = of
      by_case n (inr is) listed = absurd (both_ways (contains h.gids n) (ap (contains h.gids) is ∙ nobody) listed)

  -- what an old grant passes by the changed question it passes by the question
  pub base_stays : (h : Grant) → (h.fsname ≢ Some s.fs) ⊎ (s.fs ≡ q.fs) → contains h.gids s.nobody ≡ false → (fails_uid (asked s c attr a) h ≡ false → fails_uid q h ≡ false) → PassesBase (asked s c attr a) h → PassesBase q h
  base_stays h either nobody uid base = record {
    fsname = file_system h either base.fsname;
    uid = uid base.uid;
    gids = gids h nobody base.gids;
    path = path h base.path;
    no_write = sym (same_no_write (asked s c attr a) q h alike.read) ∙ base.no_write;
    root_squash = sym (same_root_squash (asked s c attr a) q h alike.read like.root) ∙ base.root_squash;
    no_p = sym (same_no_p (asked s c attr a) q h alike.vxattr) ∙ base.no_p;
    no_s = sym (same_no_s (asked s c attr a) q h alike.snapshot) ∙ base.no_s;
  }

  -- and the grant passes as before
  pub own_base : fails_uid (asked s c attr a) g ≡ false → PassesBase (asked s c attr a) g
  own_base uid = record {
    fsname = own_file_system;
    uid = uid;
    gids = gids_pass (asked s c attr a) g like.listed;
    path = own_path;
    no_write = same_no_write (asked s c attr a) q g alike.read ∙ passes.base.no_write;
    root_squash = same_root_squash (asked s c attr a) q g alike.read like.root ∙ passes.base.root_squash;
    no_p = same_no_p (asked s c attr a) q g alike.vxattr ∙ passes.base.no_p;
    no_s = same_no_s (asked s c attr a) q g alike.snapshot ∙ passes.base.no_s;
  }

  -- Where the changed question is not gained, the old grants allow the question.
  pub covered : is_wanted s.accesses a ≡ true → fails_uid (asked s c attr a) g ≡ false → PassesAttr (asked s c attr a) g → All (λ h. PassesAttr (asked s c attr a) h → (fails_uid (asked s c attr a) h ≡ false → fails_uid q h ≡ false) × PassesAttr q h) s.old → is_gained s (asked s c attr a) ≡ false → granted q s.old ≡ true
  covered wanted uid own each none = by_old (granted (asked s c attr a) s.old) refl
    where
      by_new : granted (asked s c attr a) s.new ≡ true
      by_new = list_any_at (allows (asked s c attr a)) s.new fits.among.0 g fits.among.1 (ap (allows (asked s c attr a)) fits.among.2 ∙ allowed (asked s c attr a) g (own_base uid) own)

      kept : (h : Grant) → (h.fsname ≢ Some s.fs) ⊎ (s.fs ≡ q.fs) → contains h.gids s.nobody ≡ false → (PassesAttr (asked s c attr a) h → (fails_uid (asked s c attr a) h ≡ false → fails_uid q h ≡ false) × PassesAttr q h) → allows (asked s c attr a) h ≡ true → allows q h ≡ true
      kept h either nobody attrs e =
          let p = passes_all (asked s c attr a) h e in
          let both = attrs p.attr in
          allowed q h (base_stays h either nobody both.0 p.base) both.1

      by_old : (b : Bool) → granted (asked s c attr a) s.old ≡ b → granted q s.old ≡ true
      by_old true is = passes_other (allows (asked s c attr a)) (allows q) s.old (λ k d less. kept (get_or s.old k d) (each_file_system k d less) (fits.old k d less) (each k d less)) is
      by_old false is =
          let gained : is_gained s (asked s c attr a) ≡ true = rw (wanted, by_new, is) in
          absurd (both_ways (is_gained s (asked s c attr a)) none gained)
