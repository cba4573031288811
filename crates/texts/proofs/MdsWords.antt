-- What an MDS is asked for has one word.
use Rattle.std.proofs.Common.{◌≡◌, ℕ, ◌<◌, ◌^◌, true, List, [], ◌∷◌, ◌++◌, drop, refl, sym, ap, ◌∙◌, arith}
use Rattle.std.specs.Prelude.{codes}
use Rattle.std.specs.Fmt.{decimal}
use Rattle.std.specs.List.{list_all}
use Rattle.std.proofs.lemmas.Fmt.{decimal_injective}
use Rattle.std.proofs.lemmas.List.{append_cancel_left}
use Rattle.capgrant.specs.declared.access.Access.{Access}
use Rattle.capgrant.specs.declared.access.Access.TheVariants.{Chgrp, Chmod, Chown, Read, SetVxattr, Snapshot, Write}
use Rattle.capgrant.specs.Access.{access_word}
use Rattle.texts.specs.declared.mds_asked.MdsAccess.{MdsAccess}
use Rattle.texts.specs.declared.mds_asked.MdsAccess.TheVariants.{Mask, One, ReadWrite}
use Rattle.texts.specs.Lines.{HasNumber}
use Rattle.texts.specs.MdsAsked.{mds_access_word}
use Rattle.texts.specs.MdsTold.{HasSmallNumbers}
use Rattle.texts.specs.Quoting.{is_plain, quoted}
use Rattle.texts.proofs.Answered.{number_to_colon, one_access, plain_number, plain_word}
use Rattle.texts.proofs.Quoted.{bare, before_a_space, clash, first_byte, plain_both}

-- ---- it ends before a space

plain_mask : (bits uid gid : ℕ) → HasSmallNumbers (Mask bits uid gid) → list_all is_plain (mds_access_word (Mask bits uid gid)) ≡ true
plain_mask bits uid gid small =
    plain_both (codes "mask:") (decimal bits ++ (codes ":" ++ (decimal uid ++ (codes ":" ++ decimal gid)))) refl
    (plain_both (decimal bits) (codes ":" ++ (decimal uid ++ (codes ":" ++ decimal gid))) (plain_number bits (omega (arith, small.0)))
    (plain_both (codes ":") (decimal uid ++ (codes ":" ++ decimal gid)) refl
    (plain_both (decimal uid) (codes ":" ++ decimal gid) (plain_number uid (omega (arith, small.1)))
    (plain_both (codes ":") (decimal gid) refl (plain_number gid (omega (arith, small.2)))))))

pub plain_asked : (a : MdsAccess) → HasSmallNumbers a → list_all is_plain (mds_access_word a) ≡ true
plain_asked (One access) small = plain_word access small
plain_asked ReadWrite small = refl
plain_asked (Mask bits uid gid) small = plain_mask bits uid gid small

-- ---- two words

-- none of an access is that of both
not_both : {T : Type 0} (a : Access) → access_word a ≡ codes "readwrite" → T
not_both Read same = clash 0 119 (omega arith) (ap (λ (word : List ℕ). first_byte (drop 4 word)) same)
not_both Write same = clash 114 119 (omega arith) (sym (ap first_byte same))
not_both SetVxattr same = clash 114 118 (omega arith) (sym (ap first_byte same))
not_both Snapshot same = clash 114 115 (omega arith) (sym (ap first_byte same))
not_both Chmod same = clash 99 114 (omega arith) (ap first_byte same)
not_both (Chown uid) same = clash 99 114 (omega arith) (ap first_byte same)
not_both (Chgrp gid) same = clash 99 114 (omega arith) (ap first_byte same)

-- nor that of a mask
not_mask : {T : Type 0} (a : Access) (more : List ℕ) → access_word a ≡ codes "mask:" ++ more → T
not_mask Read more same = clash 109 114 (omega arith) (sym (ap first_byte same))
not_mask Write more same = clash 109 119 (omega arith) (sym (ap first_byte same))
not_mask SetVxattr more same = clash 109 118 (omega arith) (sym (ap first_byte same))
not_mask Snapshot more same = clash 109 115 (omega arith) (sym (ap first_byte same))
not_mask Chmod more same = clash 99 109 (omega arith) (ap first_byte same)
not_mask (Chown uid) more same = clash 99 109 (omega arith) (ap first_byte same)
not_mask (Chgrp gid) more same = clash 99 109 (omega arith) (ap first_byte same)

abbrev numbers : ℕ → ℕ → ℕ → List ℕ
numbers bits uid gid = decimal bits ++ 58 ∷ (decimal uid ++ 58 ∷ decimal gid)

one_mask : (k l m n o p : ℕ) → HasSmallNumbers (Mask k l m) → HasSmallNumbers (Mask n o p) → mds_access_word (Mask k l m) ≡ mds_access_word (Mask n o p) → Mask k l m ≡ Mask n o p
one_mask k l m n o p small too same =
    let behind = append_cancel_left (codes "mask:") (numbers k l m) (numbers n o p) same in
    let first = number_to_colon k n (decimal l ++ 58 ∷ decimal m) (decimal o ++ 58 ∷ decimal p) (omega (arith, small.0)) (omega (arith, too.0)) behind in
    let second = number_to_colon l o (decimal m) (decimal p) (omega (arith, small.1)) (omega (arith, too.1)) first.1 in
    let bits : k ≡ n = first.0 in
    let uid : l ≡ o = second.0 in
    let gid : m ≡ p = decimal_injective m p (omega (arith, small.2)) (omega (arith, too.2)) second.1 in
    λ i. Mask (bits i) (uid i) (gid i)

pub one_word : (a b : MdsAccess) → HasSmallNumbers a → HasSmallNumbers b → mds_access_word a ≡ mds_access_word b → a ≡ b
one_word (One a) (One b) small too same = ap One (one_access a b small too same)
one_word (One a) ReadWrite small too same = not_both a same
one_word (One a) (Mask n o p) small too same = not_mask a (numbers n o p) same
one_word ReadWrite (One b) small too same = not_both b (sym same)
one_word ReadWrite ReadWrite small too same = refl
one_word ReadWrite (Mask n o p) small too same = clash 109 114 (omega arith) (sym (ap first_byte same))
one_word (Mask k l m) (One b) small too same = not_mask b (numbers k l m) (sym same)
one_word (Mask k l m) ReadWrite small too same = clash 109 114 (omega arith) (ap first_byte same)
one_word (Mask k l m) (Mask n o p) small too same = one_mask k l m n o p small too same

-- ---- with the path behind it

pub parted_there : (a b : MdsAccess) (p q s t : List ℕ) → HasSmallNumbers a → HasSmallNumbers b → mds_access_word a ++ 32 ∷ (quoted p ++ 32 ∷ s) ≡ mds_access_word b ++ 32 ∷ (quoted q ++ 32 ∷ t)
    → (a ≡ b) × (p ≡ q) × (s ≡ t)
parted_there a b p q s t small too same =
    let word = bare (mds_access_word a) (mds_access_word b) (quoted p ++ 32 ∷ s) (quoted q ++ 32 ∷ t) (plain_asked a small) (plain_asked b too) same in
    let path = before_a_space p q s t word.1 in
    (one_word a b small too word.0, path.0, path.1)
