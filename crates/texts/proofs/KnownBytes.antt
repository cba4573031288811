-- What becomes of known bytes over several reads or writes.
use Rattle.std.proofs.Common.{◌≡◌, ℕ, ◌<◌, ◌≤◌, Option, None, Some, List, [], ◌∷◌, ◌++◌, length, take, refl, sym, ap, ◌∙◌, arith, append_assoc, length-append}
use Rattle.std.specs.Io.KnownBytes.{Appends, Consumes, Keeps}
use Rattle.std.specs.Prelude.{IfSome}
use Rattle.std.proofs.lemmas.List.{append-nil, take-append-le}

pub none_consumed : (known : Option (List ℕ)) → Consumes known known []
none_consumed None = tt
none_consumed (Some xs) = refl

pub consumes_more : (old mid new : Option (List ℕ)) (xs ys : List ℕ) → Consumes old mid xs → Consumes mid new ys → Consumes old new (xs ++ ys)
consumes_more None mid new xs ys first second = tt
consumes_more (Some a) None new xs ys first second = absurd first
consumes_more (Some a) (Some b) None xs ys first second = absurd second
consumes_more (Some a) (Some b) (Some c) xs ys first second = first ∙ ap (λ (t : List ℕ). xs ++ t) second ∙ sym (append_assoc xs ys c)

pub consumes_stay : (old mid new : Option (List ℕ)) (xs : List ℕ) → Consumes old mid xs → Keeps mid new → Consumes old new xs
consumes_stay None mid new xs first kept = tt
consumes_stay (Some a) None new xs first kept = absurd first
consumes_stay (Some a) (Some b) None xs first kept = absurd kept
consumes_stay (Some a) (Some b) (Some c) xs first kept = first ∙ ap (λ (t : List ℕ). xs ++ t) (sym kept)

-- what was consumed is no longer than what there was
pub consumed_is_there : (old new : Option (List ℕ)) (xs : List ℕ) (most : ℕ) → Consumes old new xs → most < length xs → IfSome old (λ all. most < length all)
consumed_is_there None new xs most taken long = tt
consumed_is_there (Some a) None xs most taken long = absurd taken
consumed_is_there (Some a) (Some b) xs most taken long = omega (arith, ap length taken, length-append xs b)

pub none_appended : (known : Option (List ℕ)) → Appends known known []
none_appended None = tt
none_appended (Some xs) = sym (append-nil xs)

pub appends_more : (old mid new : Option (List ℕ)) (xs ys : List ℕ) → Appends old mid xs → Appends mid new ys → Appends old new (xs ++ ys)
appends_more None mid new xs ys first second = tt
appends_more (Some a) None new xs ys first second = absurd first
appends_more (Some a) (Some b) None xs ys first second = absurd second
appends_more (Some a) (Some b) (Some c) xs ys first second = second ∙ ap (λ (t : List ℕ). t ++ ys) first ∙ append_assoc a xs ys

pub appends_stay : (old mid new : Option (List ℕ)) (xs : List ℕ) → Appends old mid xs → Keeps mid new → Appends old new xs
appends_stay None mid new xs first kept = tt
appends_stay (Some a) None new xs first kept = absurd first
appends_stay (Some a) (Some b) None xs first kept = absurd kept
appends_stay (Some a) (Some b) (Some c) xs first kept = kept ∙ first

-- the same bytes
pub appends_same : (old new : Option (List ℕ)) (xs ys : List ℕ) → xs ≡ ys → Appends old new xs → Appends old new ys
appends_same None new xs ys same is = tt
appends_same (Some a) None xs ys same is = absurd is
appends_same (Some a) (Some b) xs ys same is = is ∙ ap (λ (t : List ℕ). a ++ t) same

pub consumes_same : (old new : Option (List ℕ)) (xs ys : List ℕ) → xs ≡ ys → Consumes old new xs → Consumes old new ys
consumes_same None new xs ys same is = tt
consumes_same (Some a) None xs ys same is = absurd is
consumes_same (Some a) (Some b) xs ys same is = is ∙ ap (λ (t : List ℕ). t ++ b) same

-- nothing more
pub consumes_nothing : (old mid new : Option (List ℕ)) (xs ys : List ℕ) → Consumes old mid xs → Consumes mid new ys → ys ≡ [] → Consumes old new xs
consumes_nothing old mid new xs ys first second none = consumes_same old new (xs ++ ys) xs (ap (λ (t : List ℕ). xs ++ t) none ∙ append-nil xs) (consumes_more old mid new xs ys first second)

-- the bytes that a buffer begins with
pub front_of : (n : ℕ) (front rest : List ℕ) → n ≤ length front → take n (front ++ rest) ≡ take n front
front_of n front rest within = take-append-le n front rest within

pub empty_list : (xs : List ℕ) → length xs ≡ 0 → xs ≡ []
empty_list [] none = refl
empty_list (x ∷ xs) none = absurd (omega arith)
