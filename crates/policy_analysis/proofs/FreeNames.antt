-- A name whose byte at each place is not the one of a grant's name there.
use Rattle.std.proofs.Common.{◌≡◌, ◌<◌, ℕ, zero, suc, ◌+◌, true, Option, Some, None, List, [], ◌∷◌, ◌++◌, length, refl, sym, ap, ◌∙◌, get_or, arith, inl, inr}
use Rattle.std.proofs.Common.{◌⊎◌}
use Rattle.std.specs.Prelude.{◌≢◌, slice_get, IfSome}
use Rattle.std.specs.List.{list_all}
use Rattle.std.proofs.lemmas.List.Folds.{list_all-append}
use Rattle.std.proofs.lemmas.Bool.{and_from}
use Rattle.std.proofs.lemmas.List.{get_or_default}
use Rattle.capspec.specs.declared.grant.Grant.{Grant}
use Rattle.byte_sets.specs.Sets.{is_fs_name_byte}
use Rattle.policy_analysis.specs.Free.{IsLetter, NoneNames}

letter : (b : ℕ) → IsLetter b → is_fs_name_byte b ≡ true
letter b (inl is) = rw is
letter b (inr is) = rw is

pub one_letter_more : (bytes : List ℕ) (b : ℕ) → list_all is_fs_name_byte bytes ≡ true → IsLetter b → list_all is_fs_name_byte (bytes ++ b ∷ []) ≡ true
one_letter_more bytes b all is =
    list_all-append is_fs_name_byte bytes (b ∷ []) ∙ and_from (list_all is_fs_name_byte bytes) (list_all is_fs_name_byte (b ∷ [])) all (rw (letter b is))

-- bytes that stand before more
pub front_at : (bytes more : List ℕ) (k : ℕ) → k < length bytes → slice_get (bytes ++ more) k ≡ slice_get bytes k
front_at [] more k less = absurd (omega arith)
front_at (x ∷ bytes) more zero less = refl
front_at (x ∷ bytes) more (suc k) less = front_at bytes more k (omega arith)

pub last_at : (bytes : List ℕ) (b : ℕ) → slice_get (bytes ++ b ∷ []) (length bytes) ≡ Some b
last_at [] b = refl
last_at (x ∷ bytes) b = last_at bytes b

-- the bytes have another byte at k than the name
abbrev IsApart : List ℕ → ℕ → Option (List ℕ) → Type 0
IsApart bytes k name = IfSome name (λ n. slice_get n k ≢ slice_get bytes k)

still_apart : (bytes more : List ℕ) (k : ℕ) (name : Option (List ℕ)) → k < length bytes → IsApart bytes k name → IsApart (bytes ++ more) k name
still_apart bytes more k None less apart = apart
still_apart bytes more k (Some n) less apart = λ same. apart (same ∙ front_at bytes more k less)

now_apart : (bytes : List ℕ) (b k : ℕ) (name : Option (List ℕ)) → k ≡ length bytes → IfSome name (λ n. slice_get n k ≢ Some b) → IsApart (bytes ++ b ∷ []) k name
now_apart bytes b k None is apart = apart
now_apart bytes b k (Some n) is apart = λ same. apart (same ∙ ap (slice_get (bytes ++ b ∷ [])) is ∙ last_at bytes b)

pub one_apart_more : (grants : List Grant) (bytes : List ℕ) (b i : ℕ) (g : Grant) → length bytes ≡ i → ((k : ℕ) (d : Grant) → k < i → IsApart bytes k (get_or grants k d).fsname) → g ≡ get_or grants i g → i < length grants → IfSome g.fsname (λ n. slice_get n i ≢ Some b) → (k : ℕ) (d : Grant) → k < i + 1 → IsApart (bytes ++ b ∷ []) k (get_or grants k d).fsname
one_apart_more grants bytes b i g long before is within apart k d less = by_case (cases k less)
  where
    cases : (k : ℕ) → k < i + 1 → (k < i) ⊎ (k ≡ i)
    cases k less = grind arith

    by_case : (k < i) ⊎ (k ≡ i) → IsApart (bytes ++ b ∷ []) k (get_or grants k d).fsname
    by_case (inl early) = still_apart bytes (b ∷ []) k (get_or grants k d).fsname (omega arith) (before k d early)
    by_case (inr last) = now_apart bytes b k (get_or grants k d).fsname (last ∙ sym long) (rw (last, get_or_default grants i d g within, ← is) apart)

differs : (bytes : List ℕ) (k : ℕ) (name : Option (List ℕ)) → IsApart bytes k name → name ≢ Some bytes
differs bytes k None apart same = absurd (cc)
differs bytes k (Some n) apart same = apart (ap (λ (ns : List ℕ). slice_get ns k) (some_same n bytes same))
  where
    some_same : (x y : List ℕ) → Some x ≡ Some y → x ≡ y
    some_same x y same = cc

pub all_apart : (grants : List Grant) (bytes more : List ℕ) → length bytes ≡ length grants → ((k : ℕ) (d : Grant) → k < length grants → IsApart bytes k (get_or grants k d).fsname) → NoneNames (bytes ++ more) grants
all_apart grants bytes more long apart = λ k d less. differs (bytes ++ more) k (get_or grants k d).fsname (still_apart bytes more k (get_or grants k d).fsname (omega arith) (apart k d less))
