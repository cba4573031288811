-- Texts of items, one after another.
use Rattle.std.proofs.Common.{◌≡◌, ℕ, ◌+◌, ◌<◌, List, [], ◌∷◌, ◌++◌, length, take, get_or, map, refl, sym, ap, ◌∙◌, append_assoc, arith}
use Rattle.std.specs.Prelude.{codes}
use Rattle.std.specs.Fmt.{decimal}
use Rattle.std.specs.List.{flat_map}
use Rattle.std.proofs.lemmas.List.{append-nil, map-append, take_more}
use Rattle.std.proofs.lemmas.List.Concat.{flat_map-append}
use Rattle.texts.specs.PartTexts.{byte_text, hex_text}

-- what comes behind a text that was appended to
pub texts-behind : (start more rest line : List ℕ) → line ≡ start ++ more → line ++ rest ≡ start ++ (more ++ rest)
texts-behind start more rest line is = ap (λ t. t ++ rest) is ∙ append_assoc start more rest

-- the texts so far, and one more
pub texts-push : {X : Type 0} (f : X → List ℕ) (start line after : List ℕ) (xs : List X) (x : X) → line ≡ start ++ flat_map f xs → after ≡ line ++ f x → after ≡ start ++ flat_map f (xs ++ x ∷ [])
texts-push f start line after xs x before now =
    now ∙ ap (λ t. t ++ f x) before ∙ append_assoc start (flat_map f xs) (f x)
    ∙ ap (λ t. start ++ t) (ap (λ t. flat_map f xs ++ t) (sym (append-nil (f x))) ∙ sym (flat_map-append f xs (x ∷ [])))

pub texts-more : {X : Type 0} (f : X → List ℕ) (start line after : List ℕ) (xs : List X) (k : ℕ) (d : X) → k < length xs → line ≡ start ++ flat_map f (take k xs) → after ≡ line ++ f (get_or xs k d)
    → after ≡ start ++ flat_map f (take (k + 1) xs)
texts-more f start line after xs k d inside before now =
    texts-push f start line after (take k xs) (get_or xs k d) before now ∙ ap (λ t. start ++ flat_map f t) (sym (take_more xs k d inside))

-- the same of items that an iterator gave
pub texts-yielded : {A X : Type 0} (f : X → List ℕ) (shows : A → X) (start line after : List ℕ) (xs : List A) (x : A) → line ≡ start ++ flat_map f (map shows xs) → after ≡ line ++ f (shows x)
    → after ≡ start ++ flat_map f (map shows (xs ++ x ∷ []))
texts-yielded f shows start line after xs x before now =
    texts-push f start line after (map shows xs) (shows x) before now ∙ ap (λ t. start ++ flat_map f t) (sym (map-append shows xs (x ∷ [])))

-- a number behind a space
abbrev pub behind_space : ℕ → List ℕ
behind_space number = codes " " ++ decimal number

-- some bytes have no dash
pub some_hex : (bytes : List ℕ) → 0 < length bytes → hex_text bytes ≡ flat_map byte_text bytes
some_hex [] some = absurd (omega arith)
some_hex (byte ∷ bytes) some = refl
