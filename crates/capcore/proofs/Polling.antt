-- The messages that a walk over a client's entries lists, and what giving them leaves.
use Rattle.std.proofs.Common.{Contains, Option, ◌≡◌, ◌≤◌, ◌-◌, ℕ, suc, Bool, true, false, cond, ◌&&◌, ◌||◌, List, [], ◌∷◌, ◌++◌, length, take, filter, map}
use Rattle.std.proofs.Common.{refl, sym, ap, subst, ◌∙◌, append_assoc, append-nil, arith, ◌==◌, nat_lt}
use Rattle.std.proofs.lemmas.Bool.{or_parts}
use Rattle.std.proofs.lemmas.List.{map-id, take-append-le, take_all}
use Rattle.std.proofs.lemmas.List.Folds.{list_any-append}
use Rattle.std.proofs.lemmas.Simd.{map-map}
use Rattle.std.specs.List.{IsDistinct, flat_map, list_any}
use Rattle.std.specs.Option.{unwrap_or}
use Rattle.std.specs.FinMap as finite
use Rattle.capbits.specs.Sets.{no_caps}
use Rattle.capstep.specs.Messages.{size_message}
use Rattle.capcore.proofs.CommonPieces.{AreKnown, Caps, ClientId, ClientViews, Ended, Entry, EntryRow, Ino, IsTable, Message, Scene, State, Table}
use Rattle.capcore.proofs.CommonPieces.{after_messages, changed, changed_where, end_messages, entry_at, entry_of, first_messages, fold-changed_by, holder}
use Rattle.capcore.proofs.CommonPieces.{is_among, is_caps_of, is_due, is_of_client, is_recall_of, is_size_of, known_in, pending_of, remade, row_found}
use Rattle.capcore.proofs.CommonPieces.{row_messages, with_asked, with_size_due, with_told}
use Rattle.capcore.proofs.Telling.{asked_given, given_table, retold, size_given, told_given}

-- ---- the first of a list

pub take-take_append : {X : Type 0} (n : ℕ) (xs ys : List X) → take n (take n xs ++ ys) ≡ take n (xs ++ ys)
take-take_append (suc n) (x ∷ xs) ys = ap (λ zs. x ∷ zs) (take-take_append n xs ys)
take-take_append n xs ys = refl

length-take_le : {X : Type 0} (n : ℕ) (xs : List X) → length (take n xs) ≤ n
length-take_le (suc n) (x ∷ xs) = omega (arith, length-take_le n xs)
length-take_le n xs = omega arith

-- ---- the messages that are listed

-- those that are due to the clients of some entries
abbrev pub due_of : Scene → List EntryRow → List Message
due_of s rows = flat_map (row_messages s) rows

-- what is listed so far, and what the entries that are left add to it: the requests that ended come first
pub record IsListed (max : ℕ) (s : Scene) (first : List Message) (rows : List EntryRow) (listed : List Message) (left : List EntryRow) : Type 0 where
  pub is : take max (listed ++ due_of s left) ≡ take max (first ++ due_of s rows)

-- one entry more
pub listed-more : (max : ℕ) (s : Scene) (first : List Message) (rows walk left : List EntryRow) (listed more : List Message) (row : EntryRow)
    → walk ≡ row ∷ left → more ≡ take max (listed ++ row_messages s row) → IsListed max s first rows listed walk → IsListed max s first rows more left
listed-more max s first rows walk left listed more row here is so_far = grind (arith, take-take_append, append_assoc)

pub few-more : (max : ℕ) (xs more : List Message) → more ≡ take max xs → length more ≤ max
few-more max xs more is = subst (λ (ys : List Message). length ys ≤ max) (sym is) (length-take_le max xs)

-- where no entry is left, or as many are listed as may be, they are the first
pub listed-all : (max : ℕ) (s : Scene) (first : List Message) (rows : List EntryRow) (listed : List Message) → length listed ≤ max → IsListed max s first rows listed [] → listed ≡ take max (first ++ due_of s rows)
listed-all max s first rows listed few so_far = sym (take_all max listed few) ∙ ap (take max) (sym (append-nil listed)) ∙ so_far.is

pub listed-full : (max : ℕ) (s : Scene) (first : List Message) (rows left : List EntryRow) (listed : List Message) → length listed ≤ max → max ≤ length listed → IsListed max s first rows listed left
    → listed ≡ take max (first ++ due_of s rows)
listed-full max s first rows left listed few full so_far = sym (take_all max listed few) ∙ sym (take-append-le max listed (due_of s left) full) ∙ so_far.is

-- and so the first that are due to a client
first-due : (s : State) (client : ClientId) (max : ℕ) (t : Table) (ended : List Ended) → s.scene.table ≡ t → s.messages ≡ ended
    → first_messages s client max ≡ take max (end_messages client ended ++ due_of s.scene (filter (is_of_client client) t.rows))
first-due s client max t ended table messages = grind arith

-- entries that are not due add no message
due-rows : (s : Scene) (rows : List EntryRow) → due_of s (filter is_due rows) ≡ due_of s rows
due-rows s [] = refl
due-rows s (row ∷ rows) = by_test (is_due row) refl (due-rows s rows)
  where
    by_test : (b : Bool) → is_due row ≡ b → due_of s (filter is_due rows) ≡ due_of s rows → due_of s (cond b (row ∷ filter is_due rows) (filter is_due rows)) ≡ due_of s (row ∷ rows)
    by_test true e rest = ap (λ ms. row_messages s row ++ ms) rest
    by_test false e rest =
        let p = or_parts (nat_lt row.entry.told_seq row.entry.seq) (row.entry.size_due || row.entry.asked) e in
        let q = or_parts row.entry.size_due row.entry.asked p.1 in
        let none : row_messages s row ≡ [] =
        λ i. cond (p.0 i) (Message.Caps row.holder.ino row.entry.seq (pending_of s row) ∷ []) []
        ++ cond (q.0 i) (size_message row.holder.ino (finite.get s.tree.nodes row.holder.ino.0)) [] ++ cond (q.1 i) (Message.Recall row.holder.ino ∷ []) [] in
        rest ∙ ap (λ ms. ms ++ due_of s rows) (sym none)

-- nor do those that are left, where none of them is due
pub listed-done : (max : ℕ) (s : Scene) (first : List Message) (rows left : List EntryRow) (listed : List Message) → filter is_due left ≡ [] → IsListed max s first rows listed left → IsListed max s first rows listed []
listed-done max s first rows left listed none so_far = record { is = ap (λ ms. take max (listed ++ ms)) (sym (sym (due-rows s left) ∙ ap (due_of s) none)) ∙ so_far.is }

-- how many are due behind one
pub left-behind : (row : EntryRow) (rows : List EntryRow) (n : ℕ) → n ≡ length (filter is_due (row ∷ rows)) → cond (is_due row) (n - 1) n ≡ length (filter is_due rows)
left-behind row rows n is = grind arith

-- what a walk over those of the client's entries that are due has listed
pub listed-first : (s : State) (client : ClientId) (max : ℕ) (t : Table) (ended : List Ended) (rows : List EntryRow) (listed : List Message) → filter is_due rows ≡ filter is_due (filter (is_of_client client) t.rows) → s.scene.table ≡ t → s.messages ≡ ended
    → listed ≡ take max (end_messages client ended ++ due_of s.scene rows) → listed ≡ first_messages s client max
listed-first s client max t ended rows listed of table messages is =
    is ∙ ap (λ ms. take max (end_messages client ended ++ ms)) (sym (due-rows s.scene rows) ∙ ap (due_of s.scene) of ∙ due-rows s.scene (filter (is_of_client client) t.rows)) ∙ sym (first-due s client max t ended table messages)

-- of an entry of the table it is known what its client is to know
pub known-row : (sets : ClientViews) (s : Scene) (t : Table) → s.table ≡ t → IsTable t → AreKnown sets s → (row : EntryRow) → Contains t.rows row → known_in sets row.holder ≡ pending_of s row
known-row sets s t same_table is known row inside =
    ap (λ (o : Option Caps). unwrap_or o no_caps) (known row.holder row.entry (ap (λ (u : Table). entry_at u row.holder) same_table ∙ ap entry_of (row_found t row is inside)))

-- ---- what giving them leaves

module _ (client : ClientId) where
  given-row_none : (row : EntryRow) (own : Bool) → cond own (remade (after_messages []) row) row ≡ row
  given-row_none row own = grind arith

  pub given-none : (t : Table) → t ≡ changed_where (is_of_client client) (after_messages []) t
  given-none t = λ i. record t { rows = sym ((λ j. map (λ row. given-row_none row (is_of_client client row) j) t.rows) ∙ map-id t.rows) i }

  -- given once more
  given_twice : {V : Type 0} (own : Bool) (is : Message → Bool) (done more : List Message) (to was : V)
      → cond (own && list_any is more) to (cond (own && list_any is done) to was) ≡ cond (own && list_any is (done ++ more)) to was
  given_twice own is done more to was = grind (arith, list_any-append)

  abbrev given_to : List Message → EntryRow → EntryRow
  given_to given = retold (told_given client given) (size_given client given) (asked_given client given)

  pub given-more : (done more : List Message) (t : Table)
      → changed_where (is_of_client client) (after_messages more) (changed_where (is_of_client client) (after_messages done) t) ≡ changed_where (is_of_client client) (after_messages (done ++ more)) t
  given-more done more t =
      given_table client more (changed_where (is_of_client client) (after_messages done) t)
      ∙ ap (λ (u : Table). record u { rows = map (given_to more) u.rows }) (given_table client done t)
      ∙ (λ i. record t { rows = (map-map (given_to more) (given_to done) t.rows ∙ (λ j. map (λ row. one row j) t.rows)) i })
      ∙ sym (given_table client (done ++ more) t)
    where
      one : (row : EntryRow) → given_to more (given_to done row) ≡ given_to (done ++ more) row
      one row = λ i. record row {
        entry = record row.entry {
          told_seq = given_twice (is_of_client client row) (is_caps_of row.holder.ino) done more row.entry.seq row.entry.told_seq i;
          asked = given_twice (is_of_client client row) (is_recall_of row.holder.ino) done more false row.entry.asked i;
          size_due = given_twice (is_of_client client row) (is_size_of row.holder.ino) done more false row.entry.size_due i;
        };
      }

-- ---- one message

-- the holder is the client on the inode
module _ (g : EntryRow → Entry) (given : List Message) (client : ClientId) (ino : Ino)
    (does : (row : EntryRow) → after_messages given row ≡ cond (ino.0 == row.holder.ino.0) (g row) row.entry) where
  each_row : (row : EntryRow) → cond (is_among (holder client ino ∷ []) row.holder) (remade g row) row ≡ cond (is_of_client client row) (remade (after_messages given) row) row
  each_row row = grind arith

  one-given : (t : Table) → IsTable t → changed t (holder client ino) (λ e. g (record { holder = holder client ino; entry = e })) ≡ changed_where (is_of_client client) (after_messages given) t
  unfolding IsDistinct
  one-given t is = fold-changed_by g t (holder client ino ∷ []) is (tt, tt) ∙ (λ i. record t { rows = map (λ row. each_row row i) t.rows })

pub caps-given : (client : ClientId) (ino : Ino) (seq : ℕ) (caps : Caps) (t : Table) → IsTable t
    → changed t (holder client ino) with_told ≡ changed_where (is_of_client client) (after_messages (Message.Caps ino seq caps ∷ [])) t
caps-given client ino seq caps t is =
    one-given (λ row. with_told row.entry) (Message.Caps ino seq caps ∷ []) client ino (λ row. grind arith) t is

pub size-given : (client : ClientId) (ino : Ino) (size : ℕ) (t : Table) → IsTable t
    → changed t (holder client ino) (with_size_due false) ≡ changed_where (is_of_client client) (after_messages (Message.Size ino size ∷ [])) t
size-given client ino size t is =
    one-given (λ row. with_size_due false row.entry) (Message.Size ino size ∷ []) client ino (λ row. grind arith) t is

pub recall-given : (client : ClientId) (ino : Ino) (t : Table) → IsTable t
    → changed t (holder client ino) (with_asked false) ≡ changed_where (is_of_client client) (after_messages (Message.Recall ino ∷ [])) t
recall-given client ino t is =
    one-given (λ row. with_asked false row.entry) (Message.Recall ino ∷ []) client ino (λ row. grind arith) t is
