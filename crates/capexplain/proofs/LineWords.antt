-- A line cut into its words, of which the sixth is the rest of it.
use Rattle.std.proofs.Common.{◌≡◌, ℕ, ◌+◌, ◌-◌, ◌≤◌, List, [], ◌∷◌, ◌++◌, length, map, drop, refl, sym, ap, ◌∙◌, arith, append_assoc}
use Rattle.std.specs.Borrow.{Bor}
use Rattle.std.proofs.lemmas.List.Splits.{join_with_byte-slice_split, length-slice_split}
use Rattle.std.proofs.lemmas.List.{length-map, map-append}
use Rattle.capexplain.specs.Words.{arguments_in, is_space, six_parts, spaced, words}

-- there is always a first word
pub first_word : (text : List ℕ) → (word : List ℕ) × ((more : List (List ℕ)) × (words text ≡ word ∷ more))
first_word text =
    elim (words text) as (λ ws. words text ≡ ws → (word : List ℕ) × ((more : List (List ℕ)) × (words text ≡ word ∷ more))) [
      | [] ↦ λ none. absurd (omega (arith, ap length none, length-slice_split is_space text))
      | word ∷ more ↦ λ is. (word, (more, is))
    ] refl

five : (ps : List (List ℕ)) (word : List ℕ) (more : List (List ℕ)) → length ps ≡ 5 → six_parts (ps ++ word ∷ more) ≡ ps ++ spaced (word ∷ more) ∷ []
five [] word more count = absurd (omega arith)
five (a ∷ []) word more count = absurd (omega arith)
five (a ∷ b ∷ []) word more count = absurd (omega arith)
five (a ∷ b ∷ c ∷ []) word more count = absurd (omega arith)
five (a ∷ b ∷ c ∷ d ∷ []) word more count = absurd (omega arith)
five (a ∷ b ∷ c ∷ d ∷ e ∷ []) word more count = refl
five (a ∷ b ∷ c ∷ d ∷ e ∷ f ∷ ps) word more count = absurd (omega arith)

few : (ps : List (List ℕ)) (word : List ℕ) → length ps ≤ 5 → six_parts (ps ++ word ∷ []) ≡ ps ++ word ∷ []
few [] word count = refl
few (a ∷ []) word count = refl
few (a ∷ b ∷ []) word count = refl
few (a ∷ b ∷ c ∷ []) word count = refl
few (a ∷ b ∷ c ∷ d ∷ []) word count = refl
few (a ∷ b ∷ c ∷ d ∷ e ∷ []) word count = refl
few (a ∷ b ∷ c ∷ d ∷ e ∷ f ∷ ps) word count = absurd (omega arith)

abbrev now : Bor (List ℕ) → List ℕ
now part = part.now

-- five words, and the rest as the sixth
pub cut_off : (text : List ℕ) (parts all : List (Bor (List ℕ))) (rest : Bor (List ℕ)) → all ≡ parts ++ rest ∷ [] → words text ≡ map now parts ++ words rest.now → length parts ≡ 5 → map now all ≡ six_parts (words text)
cut_off text parts all rest pushed cut count =
    let more = first_word rest.now in
    let back : spaced (more.0 ∷ more.1.0) ≡ rest.now = ap spaced (sym more.1.1) ∙ join_with_byte-slice_split 32 rest.now in
    let many : length (map now parts) ≡ 5 = length-map parts now ∙ count in
    let last : map now all ≡ map now parts ++ rest.now ∷ [] = ap (map now) pushed ∙ map-append now parts (rest ∷ []) in
    last ∙ ap (λ (w : List ℕ). map now parts ++ w ∷ []) (sym back) ∙ sym (five (map now parts) more.0 more.1.0 many) ∙ ap (λ (ws : List (List ℕ)). six_parts (map now parts ++ ws)) (sym more.1.1) ∙ ap six_parts (sym cut)

-- at most five words, and the last
pub cut_up : (text : List ℕ) (parts all : List (Bor (List ℕ))) (rest : Bor (List ℕ)) → all ≡ parts ++ rest ∷ [] → words text ≡ map now parts ++ words rest.now → length parts ≤ 5 → words rest.now ≡ rest.now ∷ [] → map now all ≡ six_parts (words text)
cut_up text parts all rest pushed cut count whole =
    let many : length (map now parts) ≤ 5 = omega (arith, length-map parts now) in
    let last : map now all ≡ map now parts ++ rest.now ∷ [] = ap (map now) pushed ∙ map-append now parts (rest ∷ []) in
    last ∙ sym (few (map now parts) rest.now many) ∙ ap (λ (ws : List (List ℕ)). six_parts (map now parts ++ ws)) (sym whole) ∙ ap six_parts (sym cut)

-- one word more
pub cut_more : (text : List ℕ) (parts all : List (Bor (List ℕ))) (rest word behind : Bor (List ℕ)) → all ≡ parts ++ word ∷ [] → words text ≡ map now parts ++ words rest.now → words rest.now ≡ word.now ∷ words behind.now → words text ≡ map now all ++ words behind.now
cut_more text parts all rest word behind pushed cut next =
    rw (pushed, map-append now parts (word ∷ []), append_assoc) (cut ∙ ap (λ (ws : List (List ℕ)). map now parts ++ ws) next)

-- ---- a line whose third part is all that is left of it

-- the words from the third on may be joined as one, and what they are with spaces between them stays
joined : (a b c : List ℕ) (ws : List (List ℕ)) → (more : List (List ℕ)) × (six_parts (a ∷ b ∷ c ∷ ws) ≡ a ∷ b ∷ c ∷ more) × (spaced (c ∷ more) ≡ spaced (c ∷ ws))
joined a b c [] = ([], refl, refl)
joined a b c (d ∷ []) = (d ∷ [], refl, refl)
joined a b c (d ∷ e ∷ []) = (d ∷ e ∷ [], refl, refl)
joined a b c (d ∷ e ∷ f ∷ ws) = (d ∷ e ∷ spaced (f ∷ ws) ∷ [], refl, refl)

-- the arguments behind the first, with a space between each two, are all that is left of the line
pub rest_of_line : (text word behind argument rest : List ℕ) → words text ≡ word ∷ words behind → words behind ≡ argument ∷ words rest
    → (first : List ℕ) × ((more : List (List ℕ)) × (arguments_in text ≡ argument ∷ first ∷ more) × (spaced (first ∷ more) ≡ rest))
rest_of_line text word behind argument rest first second =
    let third = first_word rest in
    let all : words text ≡ word ∷ argument ∷ third.0 ∷ third.1.0 =
    first ∙ ap (λ (ws : List (List ℕ)). word ∷ ws) (second ∙ ap (λ (ws : List (List ℕ)). argument ∷ ws) third.1.1) in
    let one = joined word argument third.0 third.1.0 in
    (third.0, (one.0, ap (λ (ws : List (List ℕ)). drop 1 (six_parts ws)) all ∙ ap (λ (ws : List (List ℕ)). drop 1 ws) one.1, one.2 ∙ ap spaced (sym third.1.1) ∙ join_with_byte-slice_split 32 rest))
