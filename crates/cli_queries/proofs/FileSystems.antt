-- What is said where no grant names the file system.
use Rattle.std.proofs.Common.{◌≡◌, ℕ, Bool, true, false, List, [], Option, None, Some, refl, sym, ap, ◌∙◌}
use Rattle.std.specs.Prelude.{option_map, if◌then◌else◌}
use Rattle.std.specs.Global.{Vec}
use Rattle.ceph_input.specs.FsNames.{fs_among, is_unnamed}
use Rattle.queries.specs.Values.{IsFsIf}
use Rattle.cli_queries.specs.FileSystems.{note_of, unnamed_line}

-- where none is asked of, none is given
pub none_given : (text : Option (Vec ℕ)) (names : List (List ℕ)) (given : Option (List ℕ)) → IsFsIf text given → fs_among names given ≡ None → (text ≡ None) × (fs_among names None ≡ None)
none_given None names None is none = (refl, none)
none_given None names (Some fs) is none = let bad : None ≡ Some fs = sym is in absurd (cc)
none_given (Some text) names None is none = absurd is
none_given (Some text) names (Some fs) is none = let bad : None ≡ Some fs = sym none in absurd (cc)

-- ---- the note

pub no_note : (names : List (List ℕ)) (given : Option (Vec ℕ)) → None ≡ option_map (λ (fs : Vec ℕ). fs.items) given → [] ≡ note_of names given
no_note names None none = refl
no_note names (Some fs) none = let bad : None ≡ Some fs.items = none in absurd (cc)

module _ (names named : List (List ℕ)) (bytes : List ℕ) (unnamed : Bool) (are : named ≡ names) (says : unnamed ≡ is_unnamed named bytes) where
  told_of : (fs : Vec ℕ) (said : Bool) → Some bytes ≡ Some fs.items → unnamed ≡ said → is_unnamed names fs.items ≡ said
  told_of fs said some is = let same : bytes ≡ fs.items = cc (some) in ap (is_unnamed names) (sym same) ∙ ap (λ (ns : List (List ℕ)). is_unnamed ns bytes) (sym are) ∙ sym says ∙ is

  -- no grant names the one that is given
  pub unnamed_note : (given : Option (Vec ℕ)) (line : List ℕ) → Some bytes ≡ option_map (λ (fs : Vec ℕ). fs.items) given → unnamed ≡ true → line ≡ unnamed_line named → line ≡ note_of names given
  unnamed_note None line some is told = let bad : None ≡ Some bytes = sym some in absurd (cc)
  unnamed_note (Some fs) line some is told =
      told ∙ ap unnamed_line are ∙ sym (ap (λ (b : Bool). if b then unnamed_line names else []) (told_of fs true some is))

  -- some do, or they name none
  pub named_note : (given : Option (Vec ℕ)) → Some bytes ≡ option_map (λ (fs : Vec ℕ). fs.items) given → unnamed ≡ false → [] ≡ note_of names given
  named_note None some is = let bad : None ≡ Some bytes = sym some in absurd (cc)
  named_note (Some fs) some is = sym (ap (λ (b : Bool). if b then unnamed_line names else []) (told_of fs false some is))
