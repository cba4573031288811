-- Bytes that differ are written as values that differ, and so are values as lines.
use Rattle.std.proofs.Common.{◌≡◌, ℕ, Bool, true, false, cond, List, [], ◌∷◌, Some, inl, inr, refl, sym, ap, ◌∙◌}
use Rattle.std.specs.Prelude.{IsUtf8, codes}
use Rattle.std.specs.Str.{is_utf8}
use Rattle.std.proofs.lemmas.Bool.{cases_Bool}
use Rattle.std.proofs.lemmas.List.{append_cancel_right}
use Rattle.std.proofs.lemmas.Str.{IsUtf8-from_is_utf8, is_utf8-from_IsUtf8}
use Rattle.hex.specs.Hex.{IsBytes, decode_of, encode_lower}
use Rattle.hex.proofs.HexLemmas.{decode_of-encode_lower, decode_of-same}
use Rattle.serde_json.specs.Data.{Data, member, no_members, object, string}
use Rattle.serde_json.specs.Read.{read}
use Rattle.serde_json.specs.Written.{compact_text}
use Rattle.texts.specs.Values.{ReadsBack, bytes_value, json_line, object_of}

-- ---- the two forms

pub as_text : (bytes : List ℕ) → IsUtf8 bytes → bytes_value bytes ≡ string bytes
as_text bytes utf8 = let is : is_utf8 bytes ≡ true = is_utf8-from_IsUtf8 bytes utf8 in rw is refl

pub as_digits : (bytes : List ℕ) → ¬ (IsUtf8 bytes) → bytes_value bytes ≡ object_of ((codes "hex", string (encode_lower bytes)) ∷ [])
as_digits bytes other = elim (cases_Bool (is_utf8 bytes)) [
  | inl utf8 ↦ absurd (other (IsUtf8-from_is_utf8 bytes utf8))
  | inr is ↦ rw is refl
]

-- ---- one value for each

abbrev in_digits : List ℕ → Data
in_digits bytes = object (member (codes "hex") (string (encode_lower bytes)) no_members)

by_form : (xs ys : List ℕ) (b c : Bool) → IsBytes xs → IsBytes ys → cond b (string xs) (in_digits xs) ≡ cond c (string ys) (in_digits ys) → xs ≡ ys
by_form xs ys true true p q same = cc
by_form xs ys true false p q same = cc
by_form xs ys false true p q same = cc
by_form xs ys false false p q same =
    let digits : encode_lower xs ≡ encode_lower ys = cc in
    decode_of-same (encode_lower xs) xs ys (decode_of-encode_lower xs p) (ap decode_of digits ∙ decode_of-encode_lower ys q)

pub one_spelling : (xs ys : List ℕ) → IsBytes xs → IsBytes ys → bytes_value xs ≡ bytes_value ys → xs ≡ ys
one_spelling xs ys p q same = by_form xs ys (is_utf8 xs) (is_utf8 ys) p q same

pub one_value : (d e : Data) → ReadsBack d → ReadsBack e → json_line d ≡ json_line e → d ≡ e
one_value d e reads also same =
    let text : compact_text d ≡ compact_text e = append_cancel_right (compact_text d) (compact_text e) (codes "\n") same in
    let value : Some d ≡ Some e = sym reads ∙ ap read text ∙ also in
    cc
