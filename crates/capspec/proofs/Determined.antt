-- What the tests of a text come to is determined.
use Rattle.std.proofs.Common.{◌≡◌, ℕ, Bool, true, false, eqb, List, [], ◌∷◌, ◌++◌, Option, None, Result, Ok, Err, refl, sym, ap, subst, ◌∙◌, append_assoc}
use Rattle.std.proofs.Common.{arith, inl, inr}
use Rattle.std.specs.Prelude.{MatchBool, filter_map, if◌then◌else◌}
use Rattle.std.proofs.lemmas.Bool.{true≢false}
use Rattle.std.proofs.lemmas.List.{append_cancel_left}
use Rattle.capspec.specs.declared.fault.SpecFaultKind.{SpecFaultKind}
use Rattle.capspec.specs.declared.fault.SpecFaultKind.TheVariants as kinds
use Rattle.capspec.specs.declared.flags.Flags4.{Flags4}
use Rattle.capspec.specs.declared.flags.Flags4.TheVariants.{R, Rw, Rwp, Rwps, Rws}
use Rattle.capspec.specs.declared.grant.Grant.{Grant}
use Rattle.capspec.specs.declared.items.Key.{Key}
use Rattle.capspec.specs.declared.items.Key.TheVariants as keys
use Rattle.capspec.specs.declared.reading.Refusal.{Refusal}
use Rattle.capspec.specs.Bytes.{ends_word}
use Rattle.capspec.specs.Flags.{IsFlags}
use Rattle.capspec.specs.Grants.{AreItemsOf, IsSaidOnce, fsname_in, gids_in, path_in, root_squash_in, uid_in}
use Rattle.capspec.specs.Items.{IsValue, Item, key_of, key_text}
use Rattle.capspec.specs.Items.Item.{FsName, Gids, Path, RootSquash, Uid}
use Rattle.capspec.specs.Words.{BeginsWithItem, IsKeyed, IsWrongFirst, IsWrongItem, IsWrongOther, IsWrongValue, next, plain_word}
use Rattle.capspec.specs.Faults.{GrantGives, GrantsGive, IsRightFirst, ItemsGive, TestsGive, fault_at, gids_item, grant_ends, last_grant, next_grant}
use Rattle.capspec.specs.Faults.{next_item, right_grant, second, stood, wrong_first, wrong_grant, wrong_item, wrong_items, wrong_second}
use Rattle.capspec.proofs.Valued.{value_once}
use Rattle.capspec.proofs.Righting.{right_value, value_word, value_word_is, value_wrong_once}

-- ---- an item

abbrev key_in : List ℕ → Key
key_in [] = keys.RootSquash
key_in (b ∷ bs) = if eqb b 102 then keys.FsName else if eqb b 112 then keys.Path else if eqb b 117 then keys.Uid else if eqb b 103 then keys.Gids else keys.RootSquash

key_in_is : (key : Key) (value : List ℕ) → key_in (key_text key ++ value) ≡ key
key_in_is keys.FsName value = refl
key_in_is keys.Path value = refl
key_in_is keys.Uid value = refl
key_in_is keys.Gids value = refl
key_in_is keys.RootSquash value = refl

key_once : (text value value' : List ℕ) (key key' : Key) → text ≡ key_text key ++ value → text ≡ key_text key' ++ value' → key ≡ key'
key_once text value value' key key' is is' = sym (key_in_is key value) ∙ ap key_in (sym is ∙ is') ∙ key_in_is key' value'

value_behind : (text value value' : List ℕ) (key key' : Key) → text ≡ key_text key ++ value → text ≡ key_text key' ++ value' → value ≡ value'
value_behind text value value' key key' is is' =
    append_cancel_left (key_text key) value value' (sym is ∙ is' ∙ ap (λ (k : Key). key_text k ++ value') (sym (key_once text value value' key key' is is')))

-- the value of an item at the front of a text, with what follows it
item_text : (text : List ℕ) (item : Item) (rest : List ℕ) (begins : BeginsWithItem text item rest) → text ≡ key_text (key_of item) ++ (begins.takes.0.holds.0 ++ rest)
item_text text item rest begins = begins.takes.0.parts ∙ ap (λ (t : List ℕ). t ++ rest) begins.takes.0.holds.1 ∙ append_assoc (key_text (key_of item)) begins.takes.0.holds.0 rest

item_keyed : (text : List ℕ) (item : Item) (rest : List ℕ) (begins : BeginsWithItem text item rest) → IsKeyed (key_of item) text (begins.takes.0.holds.0 ++ rest)
item_keyed text item rest begins = record { parts = item_text text item rest begins; whole = nothing_behind item begins.takes.0.holds.0 rest begins.takes.0.holds.2 begins.takes.1 }
  where
    nothing_behind : (item : Item) (value rest : List ℕ) → IsValue value item → ends_word rest ≡ true → key_of item ≡ keys.RootSquash → ends_word (value ++ rest) ≡ true
    nothing_behind (FsName name) value rest is ends keyed = absurd (cc)
    nothing_behind (Path names) value rest is ends keyed = absurd (cc)
    nothing_behind (Uid uid) value rest is ends keyed = absurd (cc)
    nothing_behind (Gids gids) value rest is ends keyed = absurd (cc)
    nothing_behind RootSquash value rest is ends keyed = ap (λ (v : List ℕ). ends_word (v ++ rest)) is ∙ ends

same_value : (text : List ℕ) (item other : Item) (rest rest' : List ℕ) (a : BeginsWithItem text item rest) (b : BeginsWithItem text other rest') → a.takes.0.holds.0 ≡ b.takes.0.holds.0
same_value text item other rest rest' a b =
    let key : key_of item ≡ key_of other = key_once text _ _ (key_of item) (key_of other) (item_text text item rest a) (item_text text other rest' b) in
    let behind : a.takes.0.holds.0 ++ rest ≡ b.takes.0.holds.0 ++ rest' = value_behind text _ _ (key_of item) (key_of other) (item_text text item rest a) (item_text text other rest' b) in
    sym (value_word_is a.takes.0.holds.0 rest item a.takes.0.holds.2 a.takes.1 a.whole)
    ∙ ap (λ (k : Key). value_word k (a.takes.0.holds.0 ++ rest)) key ∙ ap (value_word (key_of other)) behind
    ∙ value_word_is b.takes.0.holds.0 rest' other b.takes.0.holds.2 b.takes.1 b.whole

pub item_once : (text : List ℕ) (item other : Item) (rest rest' : List ℕ) → BeginsWithItem text item rest → BeginsWithItem text other rest' → item ≡ other
item_once text item other rest rest' a b =
    let key : key_of item ≡ key_of other = key_once text _ _ (key_of item) (key_of other) (item_text text item rest a) (item_text text other rest' b) in
    value_once a.takes.0.holds.0 item other a.takes.0.holds.2 (subst (λ (v : List ℕ). IsValue v other) (sym (same_value text item other rest rest' a b)) b.takes.0.holds.2) key

pub item_rest_once : (text : List ℕ) (item other : Item) (rest rest' : List ℕ) → BeginsWithItem text item rest → BeginsWithItem text other rest' → rest ≡ rest'
item_rest_once text item other rest rest' a b =
    let behind : a.takes.0.holds.0 ++ rest ≡ b.takes.0.holds.0 ++ rest' = value_behind text _ _ (key_of item) (key_of other) (item_text text item rest a) (item_text text other rest' b) in
    append_cancel_left a.takes.0.holds.0 rest rest' (behind ∙ ap (λ (v : List ℕ). v ++ rest') (sym (same_value text item other rest rest' a b)))

not_wrong : (b : Bool) (P Q : Type 0) → b ≡ false → MatchBool b P Q → Q
not_wrong true P Q e m = absurd (true≢false e)
not_wrong false P Q e m = m

pub item_right : (stands : Key → Bool) (text : List ℕ) (item : Item) (rest : List ℕ) (kind : SpecFaultKind) → BeginsWithItem text item rest → stands (key_of item) ≡ false → IsWrongItem stands text kind → ⊥
item_right stands text item rest kind begins unseen (inl other) = other.0 (key_of item) (begins.takes.0.holds.0 ++ rest) (item_keyed text item rest begins)
item_right stands text item rest kind begins unseen (inr keyed) =
    let key : keyed.0 ≡ key_of item = key_once text keyed.1 _ keyed.0 (key_of item) keyed.2.parts (item_text text item rest begins) in
    let behind : keyed.1 ≡ begins.takes.0.holds.0 ++ rest = value_behind text keyed.1 _ keyed.0 (key_of item) keyed.2.parts (item_text text item rest begins) in
    let is_wrong : IsWrongValue keyed.0 keyed.1 kind = not_wrong (stands keyed.0) (kind ≡ kinds.Twice) (IsWrongValue keyed.0 keyed.1 kind) (ap stands key ∙ unseen) keyed.3 in
    right_value begins.takes.0.holds.0 rest item kind begins.takes.0.holds.2 begins.takes.1 begins.whole
    (subst (λ (v : List ℕ). IsWrongValue (key_of item) v kind) behind (subst (λ (k : Key). IsWrongValue k keyed.1 kind) key is_wrong))

other_once : (word : List ℕ) (kind other : SpecFaultKind) → IsWrongOther word kind → IsWrongOther word other → kind ≡ other
other_once word kind other (inl a) (inl b) = a.1 ∙ sym b.1
other_once word kind other (inl a) (inr b) = absurd (b.0 a.0)
other_once word kind other (inr a) (inl b) = absurd (a.0 b.0)
other_once word kind other (inr a) (inr b) = a.1 ∙ sym b.1

either_once : (b : Bool) (P : SpecFaultKind → Type 0) (kind other again : SpecFaultKind) → (P kind → P other → kind ≡ other) → MatchBool b (kind ≡ again) (P kind) → MatchBool b (other ≡ again) (P other) → kind ≡ other
either_once true P kind other again one a b = a ∙ sym b
either_once false P kind other again one a b = one a b

pub wrong_item_once : (stands : Key → Bool) (text : List ℕ) (kind other : SpecFaultKind) → IsWrongItem stands text kind → IsWrongItem stands text other → kind ≡ other
wrong_item_once stands text kind other (inl a) (inl b) = other_once (plain_word text) kind other a.1 b.1
wrong_item_once stands text kind other (inl a) (inr b) = absurd (a.0 b.0 b.1 b.2)
wrong_item_once stands text kind other (inr a) (inl b) = absurd (b.0 a.0 a.1 a.2)
wrong_item_once stands text kind other (inr a) (inr b) =
    let key : b.0 ≡ a.0 = key_once text b.1 a.1 b.0 a.0 b.2.parts a.2.parts in
    let behind : b.1 ≡ a.1 = value_behind text b.1 a.1 b.0 a.0 b.2.parts a.2.parts in
    let moved : MatchBool (stands a.0) (other ≡ kinds.Twice) (IsWrongValue a.0 a.1 other) =
    subst (λ (v : List ℕ). MatchBool (stands a.0) (other ≡ kinds.Twice) (IsWrongValue a.0 v other)) behind (subst (λ (k : Key). MatchBool (stands k) (other ≡ kinds.Twice) (IsWrongValue k b.1 other)) key b.3) in
    either_once (stands a.0) (λ k. IsWrongValue a.0 a.1 k) kind other kinds.Twice (value_wrong_once a.0 a.1 kind other) a.3 moved

-- ---- the items of a grant

abbrev Found : Type 0
Found = Result (List Item × List ℕ) Refusal

pub items_once : {items : List Item} {gids : Option (List ℕ)} {text : List ℕ} {result other : Found} → ItemsGive items gids text result → ItemsGive items gids text other → result ≡ other
items_once (grant_ends a) (grant_ends b) = refl
items_once (grant_ends a) (wrong_item b w) = absurd (true≢false (sym a ∙ b))
items_once (grant_ends a) (next_item item rest b unseen begins on) = absurd (true≢false (sym a ∙ b))
items_once (wrong_item a w) (grant_ends b) = absurd (true≢false (sym b ∙ a))
items_once {items} {gids} {text} (wrong_item {kind = kind} a w) (wrong_item {kind = kind'} b w') = ap (λ (k : SpecFaultKind). Err (fault_at (next text) k)) (wrong_item_once (stood items) (next text) kind kind' w w')
items_once {items} {gids} {text} (wrong_item {kind = kind} a w) (next_item item rest b unseen begins on) = absurd (item_right (stood items) (next text) item rest kind begins unseen w)
items_once (next_item item rest a unseen begins on) (grant_ends b) = absurd (true≢false (sym b ∙ a))
items_once {items} {gids} {text} (next_item item rest a unseen begins on) (wrong_item {kind = kind} b w) = absurd (item_right (stood items) (next text) item rest kind begins unseen w)
items_once {items} {gids} {text} {result} {other} (next_item item rest a unseen begins on) (next_item item' rest' b unseen' begins' on') =
    let same : item' ≡ item = item_once (next text) item' item rest' rest begins' begins in
    let same_rest : rest' ≡ rest = item_rest_once (next text) item' item rest' rest begins' begins in
    items_once on (subst (λ (r : List ℕ). ItemsGive (items ++ item ∷ []) (gids_item gids item (next text)) r other) same_rest
    (subst (λ (i : Item). ItemsGive (items ++ i ∷ []) (gids_item gids i (next text)) rest' other) same on'))

-- ---- a grant

flags_in : List ℕ → Flags4
flags_in [] = R
flags_in (a ∷ []) = if eqb a 42 then Rwps else R
flags_in (a ∷ b ∷ []) = Rw
flags_in (a ∷ b ∷ c ∷ []) = if eqb c 112 then Rwp else if eqb c 115 then Rws else Rwps
flags_in (a ∷ b ∷ c ∷ d ∷ more) = Rwps

flags_in_is : (word : List ℕ) (flags : Flags4) → IsFlags word flags → flags_in word ≡ flags
unfolding flags_in
flags_in_is word R is = ap flags_in is
flags_in_is word Rw is = ap flags_in is
flags_in_is word Rwp is = ap flags_in is
flags_in_is word Rws is = ap flags_in is
flags_in_is word Rwps (inl is) = ap flags_in is
flags_in_is word Rwps (inr (inl is)) = ap flags_in is
flags_in_is word Rwps (inr (inr is)) = ap flags_in is

flags_once : (word : List ℕ) (flags other : Flags4) → IsFlags word flags → IsFlags word other → flags ≡ other
flags_once word flags other a b = sym (flags_in_is word flags a) ∙ flags_in_is word other b

said_once : {A : Type 0} (default : A) (said : List A) (x y : A) → IsSaidOnce default said x → IsSaidOnce default said y → x ≡ y
said_once default [] x y a b = a ∙ sym b
said_once default (s ∷ []) x y a b = a ∙ sym b
said_once default (s ∷ again ∷ more) x y a b = absurd a

grant_once : (items : List Item) (g h : Grant) → AreItemsOf items g → AreItemsOf items h → g.flags ≡ h.flags → g ≡ h
grant_once items g h a b flags =
    let fsname : g.fsname ≡ h.fsname = said_once None (filter_map fsname_in items) g.fsname h.fsname a.fsname b.fsname in
    let path : g.path ≡ h.path = said_once [] (filter_map path_in items) g.path h.path a.path b.path in
    let uid : g.uid ≡ h.uid = said_once None (filter_map uid_in items) g.uid h.uid a.uid b.uid in
    let gids : g.gids ≡ h.gids = said_once [] (filter_map gids_in items) g.gids h.gids a.gids b.gids in
    let root_squash : g.root_squash ≡ h.root_squash = said_once false (filter_map root_squash_in items) g.root_squash h.root_squash a.root_squash b.root_squash in
    ap (λ f. record g { flags = f }) flags ∙ ap (λ f. record g { flags = h.flags; fsname = f }) fsname ∙ ap (λ f. record g { flags = h.flags; fsname = h.fsname; path = f }) path
    ∙ ap (λ f. record h { uid = f; gids = g.gids; root_squash = g.root_squash }) uid ∙ ap (λ f. record h { gids = f; root_squash = g.root_squash }) gids ∙ ap (λ f. record h { root_squash = f }) root_squash

first_once : (before : ℕ) (word : List ℕ) (kind other : SpecFaultKind) → IsWrongFirst before word kind → IsWrongFirst before word other → kind ≡ other
first_once before word kind other (inl a) (inl b) = a.1 ∙ sym b.1
first_once before word kind other (inl a) (inr b) = absurd (omega (arith, a.0, b.0))
first_once before word kind other (inr a) (inl b) = absurd (omega (arith, a.0, b.0))
first_once before word kind other (inr a) (inr b) = a.2 ∙ sym b.2

pub first_right : (before : ℕ) (text : List ℕ) (kind : SpecFaultKind) → IsRightFirst before text → IsWrongFirst before (plain_word (next text)) kind → ⊥
first_right before text kind is (inl many) = omega (arith, is.0, many.0)
first_right before text kind is (inr other) = other.1 is.1

abbrev Found_grant : Type 0
Found_grant = Result (Grant × List ℕ) Refusal

same_refusal : (a b : Refusal) (x : Found) → x ≡ Err a → x ≡ Err b → a ≡ b
same_refusal a b x e e' = cc

same_items : (items other : List Item) (rest rest' : List ℕ) (x : Found) → x ≡ Ok (items, rest) → x ≡ Ok (other, rest') → (items ≡ other) × (rest ≡ rest')
same_items items other rest rest' x e e' =
    let same : (items, rest) ≡ (other, rest') = cc in
    (ap (λ (p : List Item × List ℕ). p.0) same, ap (λ (p : List Item × List ℕ). p.1) same)

err_not_ok : (refusal : Refusal) (found : List Item × List ℕ) (x : Found) → x ≡ Err refusal → x ≡ Ok found → ⊥
err_not_ok refusal found x e e' = cc

pub grant_gives_once : {before : ℕ} {text : List ℕ} {result other : Found_grant} → GrantGives before text result → GrantGives before text other → result ≡ other
grant_gives_once {before} {text} (wrong_first {kind = kind} w) (wrong_first {kind = kind'} w') = ap (λ (k : SpecFaultKind). Err (fault_at (next text) k)) (first_once before (plain_word (next text)) kind kind' w w')
grant_gives_once {before} {text} (wrong_first {kind = kind} w) (wrong_second ok w') = absurd (first_right before text kind ok w)
grant_gives_once {before} {text} (wrong_first {kind = kind} w) (wrong_items flags ok is w') = absurd (first_right before text kind ok w)
grant_gives_once {before} {text} (wrong_first {kind = kind} w) (right_grant items ok is read are) = absurd (first_right before text kind ok w)
grant_gives_once {before} {text} (wrong_second ok w) (wrong_first {kind = kind} w') = absurd (first_right before text kind ok w')
grant_gives_once {before} {text} (wrong_second ok w) (wrong_second ok' w') = ap (λ (k : SpecFaultKind). Err (fault_at (second text) k)) (w.1 ∙ sym w'.1)
grant_gives_once {before} {text} (wrong_second ok w) (wrong_items flags ok' is w') = absurd (w.0 flags is)
grant_gives_once {before} {text} (wrong_second ok w) (right_grant {grant = grant} items ok' is read are) = absurd (w.0 grant.flags is)
grant_gives_once {before} {text} (wrong_items flags ok is w) (wrong_first {kind = kind} w') = absurd (first_right before text kind ok w')
grant_gives_once {before} {text} (wrong_items flags ok is w) (wrong_second ok' w') = absurd (w'.0 flags is)
grant_gives_once {before} {text} (wrong_items {refusal = a} flags ok is w) (wrong_items {refusal = b} flags' ok' is' w') = ap Err (same_refusal a b (Err a) refl (items_once w w'))
grant_gives_once {before} {text} (wrong_items {refusal = a} flags ok is w) (right_grant {rest = rest} items ok' is' read are) = absurd (err_not_ok a (items, rest) (Err a) refl (items_once w read))
grant_gives_once {before} {text} (right_grant items ok is read are) (wrong_first {kind = kind} w') = absurd (first_right before text kind ok w')
grant_gives_once {before} {text} (right_grant {grant = grant} items ok is read are) (wrong_second ok' w') = absurd (w'.0 grant.flags is)
grant_gives_once {before} {text} (right_grant {rest = rest} items ok is read are) (wrong_items {refusal = a} flags ok' is' w') = absurd (err_not_ok a (items, rest) (Err a) refl (items_once w' read))
grant_gives_once {before} {text} (right_grant {grant = g} {rest = rest} items ok is read are) (right_grant {grant = h} {rest = rest'} items' ok' is' read' are') =
    let same = same_items items items' rest rest' (Ok (items, rest)) refl (items_once read read') in
    let grants : g ≡ h = grant_once items g h are (subst (λ (i : List Item). AreItemsOf i h) (sym same.0) are') (flags_once (plain_word (second text)) g.flags h.flags is is') in
    ap (λ (x : Grant). Ok (x, rest)) grants ∙ ap (λ (r : List ℕ). Ok (h, r)) same.1

-- ---- a text

abbrev Found_grants : Type 0
Found_grants = Result (List Grant) Refusal

refused_once : (a b : Refusal) (x : Found_grant) → x ≡ Err a → x ≡ Err b → a ≡ b
refused_once a b x e e' = cc

refused_not_read : (a : Refusal) (g : Grant) (rest : List ℕ) (x : Found_grant) → x ≡ Err a → x ≡ Ok (g, rest) → ⊥
refused_not_read a g rest x e e' = cc

read_once : (g h : Grant) (rest rest' : List ℕ) (x : Found_grant) → x ≡ Ok (g, rest) → x ≡ Ok (h, rest') → (g ≡ h) × (rest ≡ rest')
read_once g h rest rest' x e e' =
    let same : (g, rest) ≡ (h, rest') = cc in
    (ap (λ (p : Grant × List ℕ). p.0) same, ap (λ (p : Grant × List ℕ). p.1) same)

some_not_none : (mark : ℕ) (rest : List ℕ) → mark ∷ rest ≡ [] → ⊥
some_not_none mark rest e = cc

same_tail : (mark mark' : ℕ) (rest rest' : List ℕ) → mark ∷ rest ≡ mark' ∷ rest' → rest ≡ rest'
same_tail mark mark' rest rest' e = cc

pub grants_once : {grants : List Grant} {text : List ℕ} {result other : Found_grants} → GrantsGive grants text result → GrantsGive grants text other → result ≡ other
grants_once (wrong_grant {refusal = a} w) (wrong_grant {refusal = b} w') = ap Err (refused_once a b (Err a) refl (grant_gives_once w w'))
grants_once (wrong_grant {refusal = a} w) (last_grant {grant = g} r) = absurd (refused_not_read a g [] (Err a) refl (grant_gives_once w r))
grants_once (wrong_grant {refusal = a} w) (next_grant g mark rest r on) = absurd (refused_not_read a g (mark ∷ rest) (Err a) refl (grant_gives_once w r))
grants_once (last_grant {grant = g} r) (wrong_grant {refusal = a} w) = absurd (refused_not_read a g [] (Err a) refl (grant_gives_once w r))
grants_once {grants} (last_grant {grant = g} r) (last_grant {grant = h} r') = ap (λ (x : Grant). Ok (grants ++ x ∷ [])) (read_once g h [] [] (Ok (g, [])) refl (grant_gives_once r r')).0
grants_once (last_grant {grant = g} r) (next_grant h mark rest r' on) = absurd (some_not_none mark rest (sym (read_once g h [] (mark ∷ rest) (Ok (g, [])) refl (grant_gives_once r r')).1))
grants_once (next_grant g mark rest r on) (wrong_grant {refusal = a} w) = absurd (refused_not_read a g (mark ∷ rest) (Err a) refl (grant_gives_once w r))
grants_once (next_grant h mark rest r on) (last_grant {grant = g} r') = absurd (some_not_none mark rest (sym (read_once g h [] (mark ∷ rest) (Ok (g, [])) refl (grant_gives_once r' r)).1))
grants_once {grants} {text} {result} {other} (next_grant g mark rest r on) (next_grant h mark' rest' r' on') =
    let same = read_once h g (mark' ∷ rest') (mark ∷ rest) (Ok (h, mark' ∷ rest')) refl (grant_gives_once r' r) in
    grants_once on (subst (λ (t : List ℕ). GrantsGive (grants ++ g ∷ []) t other) (same_tail mark' mark rest' rest same.1) (subst (λ (x : Grant). GrantsGive (grants ++ x ∷ []) rest' other) same.0 on'))

pub tests_once : (text : List ℕ) (result other : Found_grants) → TestsGive text result → TestsGive text other → result ≡ other
tests_once text result other (inl a) (inl b) = a.1 ∙ sym b.1
tests_once text result other (inl a) (inr b) = absurd (true≢false (sym a.0 ∙ b.0))
tests_once text result other (inr a) (inl b) = absurd (true≢false (sym b.0 ∙ a.0))
tests_once text result other (inr a) (inr b) = grants_once a.1 b.1
