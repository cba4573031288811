-- A text compared with names from the last one on.
use Rattle.std.proofs.Common.{◌≡◌, ◌≢◌, ℕ, ◌+◌, ◌-◌, ◌<◌, ◌≤◌, suc, Bool, true, false, List, [], ◌∷◌, ◌++◌, length, take, drop, map, get_or, sym, ap, ◌∙◌}
use Rattle.std.proofs.Common.{arith, Bor, append_assoc}
use Rattle.std.proofs.lemmas.Bool.{true≢false}
use Rattle.std.proofs.lemmas.List.Concat.{flat_map-append}
use Rattle.std.proofs.lemmas.List.{append-nil, append_cancel_right, drop-take, get_or-take, length-append, length-take-le, map-append, take-append-drop}
use Rattle.std.proofs.lemmas.List.{take_more}
use Rattle.std.proofs.Math.Seq.{drop-append_seam, get_or-append_seam}
use Rattle.capspec.specs.Paths.{slashed}

pub slashed-append : (xs ys : List (List ℕ)) → slashed (xs ++ ys) ≡ slashed xs ++ slashed ys
slashed-append xs ys = flat_map-append (λ name. 47 ∷ name) xs ys

abbrev texts : List (Bor (List ℕ)) → List (List ℕ)
texts names = map (λ name. name.now) names

both : (xs ys : List (Bor (List ℕ))) → slashed (texts (xs ++ ys)) ≡ slashed (texts xs) ++ slashed (texts ys)
both xs ys = ap slashed (map-append (λ name. name.now) xs ys) ∙ slashed-append (texts xs) (texts ys)

cut : (k : ℕ) (names : List (Bor (List ℕ))) → slashed (texts names) ≡ slashed (texts (take k names)) ++ slashed (texts (drop k names))
cut k names = ap (λ (ns : List (Bor (List ℕ))). slashed (texts ns)) (sym (take-append-drop k names)) ∙ both (take k names) (drop k names)

last : (k : ℕ) (names : List (Bor (List ℕ))) (d : Bor (List ℕ)) → k < length names → slashed (texts (take (k + 1) names)) ≡ slashed (texts (take k names)) ++ 47 ∷ (get_or names k d).now
last k names d inside =
    let name : Bor (List ℕ) = get_or names k d in
    ap (λ (ns : List (Bor (List ℕ))). slashed (texts ns)) (take_more names k d inside) ∙ both (take k names) (name ∷ [])
    ∙ ap (λ (t : List ℕ). slashed (texts (take k names)) ++ t) (append-nil (47 ∷ name.now))

-- a text that is the names, of which those from left on are behind end
module _ (text : List ℕ) (end left k : ℕ) (names : List (Bor (List ℕ))) (d : Bor (List ℕ)) (next : left ≡ k + 1) (inside : left ≤ length names) (fits : end ≤ length text) (so_far : text ≡ take end text ++ slashed (texts (drop left names))) (whole : text ≡ slashed (texts names)) where
  abbrev before : List ℕ
  before = slashed (texts (take k names))

  abbrev name : List ℕ
  name = (get_or names k d).now

  front : take end text ≡ before ++ 47 ∷ name
  front =
      append_cancel_right (take end text) (slashed (texts (take left names))) (slashed (texts (drop left names))) (sym so_far ∙ whole ∙ cut left names)
      ∙ ap (λ (m : ℕ). slashed (texts (take m names))) next
      ∙ last k names d (omega (arith, next, inside))

  size : end ≡ length before + suc (length name)
  size = sym (length-take-le end text fits) ∙ ap length front ∙ length-append before (47 ∷ name)

  pub longer : length name < end
  longer = omega (arith, size)

  pub same_name : (start m : ℕ) → start + length name ≡ end → m ≡ length name → take m (drop start text) ≡ name
  same_name start m start-is m-is =
      let place : start ≡ length (before ++ 47 ∷ []) = omega (arith, size, start-is, length-append before (47 ∷ [])) in
      let ends : start + m ≡ end = omega (arith, start-is, m-is) in
      sym (drop-take start m text) ∙ ap (λ (n : ℕ). drop start (take n text)) ends ∙ ap (drop start) (front ∙ sym (append_assoc before (47 ∷ []) name))
      ∙ ap (λ (n : ℕ). drop n ((before ++ 47 ∷ []) ++ name)) place
      ∙ drop-append_seam (before ++ 47 ∷ []) name

  pub slash : (place : ℕ) (e : ℕ) → place + 1 + length name ≡ end → get_or text place e ≡ 47
  slash place e place-is =
      let at : place ≡ length before = omega (arith, size, place-is) in
      sym (get_or-take end text place e (omega (arith, place-is))) ∙ ap (λ (t : List ℕ). get_or t place e) front ∙ ap (λ (n : ℕ). get_or (before ++ 47 ∷ name) n e) at ∙ get_or-append_seam before 47 name e

  pub too_short : end ≤ length name → false ≡ true
  too_short short = absurd (omega (arith, longer, short))

  pub other_name : (start m : ℕ) (r : Bool) → (take m (drop start text) ≡ name → r ≡ true) → r ≡ false → length name < end → start ≡ end - length name → m ≡ end - start → false ≡ true
  other_name start m r same is long start-is m-is = sym is ∙ same (same_name start m (omega (arith, long, start-is)) (omega (arith, long, start-is, m-is)))

  pub no_slash : (place e : ℕ) → get_or text place e ≢ 47 → length name < end → place ≡ end - length name - 1 → false ≡ true
  no_slash place e apart long place-is = absurd (apart (slash place e (omega (arith, long, place-is))))

pub none : {A : Type 0} → (A → false ≡ true) → (false ≡ true → A) × (A → false ≡ true)
none apart = ((λ f. absurd (true≢false (sym f))), apart)
