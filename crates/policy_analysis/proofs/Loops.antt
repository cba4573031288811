-- What the loops keep.
use Rattle.std.proofs.Common.{◌≡◌, ◌<◌, ◌≤◌, ℕ, ◌+◌, false, Option, Some, None, List, [], length, get_or, take}
use Rattle.std.specs.Prelude.{All, IfNone}
use Rattle.std.proofs.lemmas.List.{take_all}
use Rattle.std.proofs.lemmas.List.Elements.{All-more, All-nil}
use Rattle.capbits.specs.declared.caller.Caller.{Caller}
use Rattle.capgrant.specs.declared.access.Access.{Access}
use Rattle.capgrant.specs.declared.access.Attr.{Attr}
use Rattle.policy_analysis.specs.Asking.{GainsNone, NoneAsOther, NoneAsOthers, NoneAsOthersOf, Setting, asked, is_gained}
use Rattle.policy_analysis.specs.declared.asking.Found.{Found}

-- what holds of the item of a loop holds of the element there
pub one_more : {X : Type 0} (P : X → Type 0) (xs : List X) (i : ℕ) (x : X) → i < length xs → x ≡ get_or xs i x → All P (take i xs) → P x → All P (take (i + 1) xs)
one_more P xs i x within is before here = All-more P xs i x within before (rw (← is) here)

pub all_of : {X : Type 0} (P : X → Type 0) (xs : List X) (i : ℕ) → length xs ≤ i → All P (take i xs) → All P xs
all_of P xs i end all = rw (take_all i xs end) at all

pub no_access : (s : Setting) (c : Caller) (attr : Attr) → GainsNone s c attr []
unfolding GainsNone
no_access s c attr = All-nil (λ access. is_gained s (asked s c attr access) ≡ false)

pub one_access_more : (s : Setting) (c : Caller) (attr : Attr) (xs : List Access) (i : ℕ) (d : Access) → i < length xs → GainsNone s c attr (take i xs) → is_gained s (asked s c attr (get_or xs i d)) ≡ false → GainsNone s c attr (take (i + 1) xs)
unfolding GainsNone
one_access_more s c attr xs i d within before here = All-more (λ access. is_gained s (asked s c attr access) ≡ false) xs i d within before here

pub each_access : (s : Setting) (c : Caller) (attr : Attr) (xs : List Access) (i : ℕ) → length xs ≤ i → GainsNone s c attr (take i xs) → GainsNone s c attr xs
each_access s c attr xs i end all = rw (take_all i xs end) at all

pub no_group : (s : Setting) (c : Caller) → NoneAsOthersOf s c []
unfolding NoneAsOthersOf
no_group s c = All-nil (NoneAsOther s c)

pub one_group_more : (s : Setting) (c : Caller) (xs : List ℕ) (i d : ℕ) → i < length xs → NoneAsOthersOf s c (take i xs) → NoneAsOther s c (get_or xs i d) → NoneAsOthersOf s c (take (i + 1) xs)
unfolding NoneAsOthersOf
one_group_more s c xs i d within before here = All-more (NoneAsOther s c) xs i d within before here

pub each_group : (s : Setting) (c : Caller) (xs : List ℕ) (i : ℕ) → length xs ≤ i → NoneAsOthersOf s c (take i xs) → NoneAsOthersOf s c xs
each_group s c xs i end all = rw (take_all i xs end) at all

-- and for the group that nobody lists, where nothing was found there either
pub nobody_too : (s : Setting) (c : Caller) (found : Option Found) (nobody : ℕ) → nobody ≡ s.nobody → All (λ h. NoneAsOthersOf s c h.gids) s.old → IfNone found (NoneAsOther s c nobody) → IfNone found (NoneAsOthers s c)
nobody_too s c None nobody same listed none = record { listed = listed; nobody = rw same at none }
nobody_too s c (Some found) nobody same listed none = none
