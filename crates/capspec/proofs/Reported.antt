-- No test of a text is about memory.
use Rattle.std.proofs.Common.{◌≡◌, ℕ, Bool, true, false, List, [], ◌∷◌, Option, None, Some, Result, Ok, Err, sym, ap, subst, ◌∙◌, inl, inr}
use Rattle.std.specs.Prelude.{◌≢◌, MatchBool, IfErr, if◌then◌else◌}
use Rattle.capspec.specs.declared.fault.SpecFault.{SpecFault}
use Rattle.capspec.specs.declared.fault.SpecFaultKind.{SpecFaultKind}
use Rattle.capspec.specs.declared.fault.SpecFaultKind.TheVariants as kinds
use Rattle.capspec.specs.declared.grant.Grant.{Grant}
use Rattle.capspec.specs.declared.items.Key.{Key}
use Rattle.capspec.specs.declared.items.Key.TheVariants as keys
use Rattle.capspec.specs.declared.reading.Refusal.{Refusal}
use Rattle.byte_sets.specs.Sets.{is_in}
use Rattle.capspec.specs.Bytes.{ends_word}
use Rattle.byte_sets.specs.declared.sets.ByteSet.TheVariants.{AllBut}
use Rattle.capspec.specs.Items.{Item}
use Rattle.capspec.specs.Words.{IsWrongFirst, IsWrongGids, IsWrongItem, IsWrongOther, IsWrongPath, IsWrongQuoted, IsWrongSecond, IsWrongValue, front_while}
use Rattle.capspec.specs.Words.{is_quote, next, plain_word, rest_while}
use Rattle.capspec.specs.Flags.{is_left_out}
use Rattle.capspec.specs.Faults.{GrantGives, GrantsGive, IsFault, ItemsGive, TestsGive, grant_end, grant_ends, last_grant, next_grant, next_item, right_grant}
use Rattle.capspec.specs.Faults.{stood, wrong_first, wrong_grant, wrong_item, wrong_items, wrong_second}

abbrev IsReported : SpecFaultKind → Type 0
IsReported kind = kind ≢ kinds.NoMemory

abbrev IsReportedAtErr : {A : Type 0} → Result A Refusal → Type 0
IsReportedAtErr result = IfErr result (λ refusal. IsReported refusal.kind)

-- a kind that is known
reported : (kind known : SpecFaultKind) → IsReported known → kind ≡ known → IsReported kind
reported kind known is same memory = is (sym same ∙ memory)

either : {R : Type 0} (b : Bool) (P Q : Type 0) → (P → R) → (Q → R) → MatchBool b P Q → R
either true P Q f g m = f m
either false P Q f g m = g m

first_told : (before : ℕ) (word : List ℕ) (kind : SpecFaultKind) → IsWrongFirst before word kind → IsReported kind
first_told before word kind (inl w) = reported kind kinds.TooMany (λ e. cc) w.1
first_told before word kind (inr w) = reported kind kinds.NotAllow (λ e. cc) w.2

left_out_told : (b : Bool) → IsReported (if b then kinds.LeftOut else kinds.BadFlags)
left_out_told true e = cc
left_out_told false e = cc

second_told : (word : List ℕ) (kind : SpecFaultKind) → IsWrongSecond word kind → IsReported kind
second_told word kind w = reported kind (if is_left_out word then kinds.LeftOut else kinds.BadFlags) (left_out_told (is_left_out word)) w.1

other_told : (word : List ℕ) (kind : SpecFaultKind) → IsWrongOther word kind → IsReported kind
other_told word kind (inl w) = reported kind kinds.LeftOut (λ e. cc) w.1
other_told word kind (inr w) = reported kind kinds.BadItem (λ e. cc) w.1

quoted_told : (quote : ℕ) (path rest : List ℕ) (kind : SpecFaultKind) → IsWrongQuoted quote path rest kind → IsReported kind
quoted_told quote path [] kind w = reported kind kinds.OpenQuote (λ e. cc) w
quoted_told quote path (closing ∷ behind) kind w = either (ends_word behind) _ _ (λ p. reported kind kinds.BadPath (λ e. cc) p.1) (λ q. reported kind kinds.BadItem (λ e. cc) q) w

path_told : (text : List ℕ) (kind : SpecFaultKind) → IsWrongPath text kind → IsReported kind
path_told [] kind w = reported kind kinds.BadPath (λ e. cc) w
path_told (b ∷ bs) kind w = either (is_quote b) _ _ (λ p. quoted_told b (front_while (is_in (AllBut b)) bs) (rest_while (is_in (AllBut b)) bs) kind p) (λ q. reported kind kinds.BadPath (λ e. cc) q.1) w

gids_told : (value : List ℕ) (kind : SpecFaultKind) → IsWrongGids value kind → IsReported kind
gids_told value kind (inl w) = reported kind kinds.BadNumber (λ e. cc) w.1
gids_told value kind (inr w) = reported kind kinds.TooMany (λ e. cc) w.3

value_told : (key : Key) (text : List ℕ) (kind : SpecFaultKind) → IsWrongValue key text kind → IsReported kind
value_told keys.FsName text kind w = reported kind kinds.BadItem (λ e. cc) w.1
value_told keys.Path text kind w = path_told text kind w
value_told keys.Uid text kind w = reported kind kinds.BadNumber (λ e. cc) w.1
value_told keys.Gids text kind w = gids_told _ kind w
value_told keys.RootSquash text kind w = absurd w

item_told : (stands : Key → Bool) (text : List ℕ) (kind : SpecFaultKind) → IsWrongItem stands text kind → IsReported kind
item_told stands text kind (inl w) = other_told (plain_word text) kind w.1
item_told stands text kind (inr w) = either (stands w.0) _ _ (λ p. reported kind kinds.Twice (λ e. cc) p) (λ q. value_told w.0 w.1 kind q) w.3

unless_told : (b : Bool) (found : List Item × List ℕ) (refusal : Refusal) → IsReported refusal.kind → IsReportedAtErr (if b then Ok found else Err refusal)
unless_told true found refusal is = tt
unless_told false found refusal is = is

end_told : (items : List Item) (gids : Option (List ℕ)) (rest : List ℕ) → IsReportedAtErr (grant_end items gids rest)
end_told items None rest = tt
end_told items (Some gids) rest = unless_told (stood items keys.Uid) (items, rest) _ (λ e. cc)

items_told : {items : List Item} {gids : Option (List ℕ)} {text : List ℕ} {result : Result (List Item × List ℕ) Refusal} → ItemsGive items gids text result → IsReportedAtErr result
items_told {items} {gids} {text} (grant_ends ends) = end_told items gids (next text)
items_told {items} {gids} {text} (wrong_item {kind = kind} goes w) = item_told (stood items) (next text) kind w
items_told (next_item item rest goes unseen begins on) = items_told on

grant_told : {before : ℕ} {text : List ℕ} {result : Result (Grant × List ℕ) Refusal} → GrantGives before text result → IsReportedAtErr result
grant_told {before} {text} (wrong_first {kind = kind} w) = first_told before _ kind w
grant_told (wrong_second {kind = kind} ok w) = second_told _ kind w
grant_told (wrong_items flags ok is w) = items_told w
grant_told (right_grant items ok is read are) = tt

grants_told : {grants : List Grant} {text : List ℕ} {result : Result (List Grant) Refusal} → GrantsGive grants text result → IsReportedAtErr result
grants_told (wrong_grant w) = grant_told w
grants_told (last_grant g) = tt
grants_told (next_grant grant mark rest g on) = grants_told on

tests_told : (text : List ℕ) (result : Result (List Grant) Refusal) → TestsGive text result → IsReportedAtErr result
tests_told text result (inl blank) = subst (λ (r : Result (List Grant) Refusal). IsReportedAtErr r) (sym blank.1) (λ e. cc)
tests_told text result (inr gives) = grants_told gives.1

-- a fault of a text is not want of memory
pub fault_told : (text : List ℕ) (fault : SpecFault) → IsFault text fault → fault.kind ≢ kinds.NoMemory
fault_told text fault is = reported fault.kind is.0.kind (tests_told text (Err is.0) is.1) (ap (λ (f : SpecFault). f.kind) is.2)
