-- The parts of a table without entries.
use Rattle.std.proofs.Common.{◌≡◌, ℕ, Option, Some, None, refl, sym, ap, subst, ◌∙◌, arith}
use Rattle.std.specs.List.{IsDistinct}
use Rattle.std.specs.Ordering.{nat_cmp}
use Rattle.std.specs.FinMap as map
use Rattle.capbits.specs.declared.ids.ClientId.{ClientId}
use Rattle.cap_arena.specs.Heads.{ends_or_none}
use Rattle.cap_arena.specs.declared.nodes.Ends.{Ends}
use Rattle.cap_arena.specs.Lists.{IsList, IsLists, ListName, Lists, OfClient, OfInode, OfRecall, empty}
use Rattle.captable.specs.declared.entry.Slot.{Slot}
use Rattle.captable.specs.Linked.{IsLinked}
use Rattle.captable.specs.Places.{NoneDueBeforeAny}
use Rattle.captable.proofs.Tables.{IsTable-empty}

no_ends_at : (number : ℕ) → map.get (map.empty {X = Ends} {R = nat_cmp}) number ≡ None
no_ends_at number = map.get-empty nat_cmp number

no_list : (name : ListName) → IsList {T = Slot} empty name
unfolding IsDistinct
no_list (OfInode ino) = record { forth = ap (λ o. (ends_or_none o).first) (no_ends_at ino.0); back = ap (λ o. (ends_or_none o).last) (no_ends_at ino.0); once = tt; nodes = λ k. refl }
no_list (OfClient client) = record { forth = ap (λ o. (ends_or_none o).first) (no_ends_at client.0); back = ap (λ o. (ends_or_none o).last) (no_ends_at client.0); once = tt; nodes = λ k. refl }
no_list OfRecall = record { forth = refl; back = refl; once = tt; nodes = λ k. refl }

no_lists : IsLists {T = Slot} empty
no_lists =
    record {
      lists = no_list;
      inodes = λ number ends e. absurd (let n : None ≡ Some ends = sym (no_ends_at number) ∙ e in cc);
      clients = λ number ends e. absurd (let n : None ≡ Some ends = sym (no_ends_at number) ∙ e in cc);
      room = omega arith;
    }

pub IsLinked-empty : (t : Lists Slot) → t ≡ empty → IsLinked t 0
IsLinked-empty t nodes =
    subst (λ (t : Lists Slot). IsLinked t 0) (sym nodes)
    record {
      sound = no_lists;
      table = IsTable-empty;
      below = tt;
      once = λ number. omega arith;
      inodes = λ ino. refl;
      clients = λ client. refl;
      ordered = λ client. record { rises = λ i j there apart. absurd (cc) };
    }

pub NoneDueBeforeAny-empty : (t : Lists Slot) (places : ClientId → Option (Option ℕ)) → ((q : ClientId) → places q ≡ None) → NoneDueBeforeAny t places
NoneDueBeforeAny-empty t places none client place e = absurd (let n : None ≡ Some place = sym (none client) ∙ e in cc)
