use Rattle.std.proofs.Common.{◌≡◌, cond, not, true, false, Bool, Some, None, sym, ap, ◌∙◌}
use Rattle.capbits.specs.Caps.{has}
use Rattle.capbits.specs.Sets.{no_caps}
use Rattle.capcore.proofs.CommonPieces.{Caps, Entry, Holder, P, Table, and_parts, entry_at, has-minus, minus}
use Rattle.capcore.proofs.CountsStay.{idle-changed, idle-without, less-changed, less-without, none-changed, none-without}
use Rattle.capcore.proofs.entry_request.give_up.Goals.{After-left_of-left}
use Rattle.capcore.proofs.entry_request.give_up.Goals as goal

pub returns-then-not-is_gathering-clause-rest : goal.returns-then-not-is_gathering-clause-rest
returns-then-not-is_gathering-clause-rest c = λ stays after held all.
    idle-changed c.args.locks.now c.args.table.now.entries c.args.holder (sym c.is_gathering.ensures ∙ c.if-not-is_gathering.true) after all

pub returns-then-not-is_gathering-clause-gone : goal.returns-then-not-is_gathering-clause-gone
returns-then-not-is_gathering-clause-gone c = λ goes all.
    idle-without c.args.locks.now c.args.table.now.entries c.args.holder (sym c.is_gathering.ensures ∙ c.if-not-is_gathering.true) all

module _ (c : After-left_of-left) where
  abbrev t : Table
  t = c.args.table.now.entries

  abbrev k : Holder
  k = c.args.holder

  abbrev e : Entry
  e = c.in-Some.entry

  there : entry_at t k ≡ Some e
  there = cc

  left : (b : Bool) → has c.args.caps P ≡ b → c.left_of-left.result ≡ cond b no_caps (minus e.held c.args.caps)
  left b is = c.left_of-left.ensures ∙ ap (λ b. cond b no_caps (minus e.held c.args.caps)) is

pub returns-in-Some-clause-rest : goal.returns-in-Some-clause-rest
returns-in-Some-clause-rest g = λ stays after held all.
    let c = (goal.at.returns-in-Some-clause-rest g).After-left_of-left in
    let rest : g.left_of-left.result ≡ minus (e c).held g.args.caps = left c false stays in
    less-changed g.args.locks.now g.gives_up.new.self (t c) (k c) (e c) g.left_of-left.result (there c) g.gives_up.ensures.locks g.gives_up.ensures.counts after (held (e c) ∙ sym rest)
    (λ q h. (and_parts (has (e c).held q) (not (has g.args.caps q)) (sym (has-minus (e c).held g.args.caps q) ∙ ap (λ (caps : Caps). has caps q) (sym rest) ∙ h)).0) all

pub returns-in-Some-clause-gone : goal.returns-in-Some-clause-gone
returns-in-Some-clause-gone g = λ goes all.
    let c = (goal.at.returns-in-Some-clause-gone g).After-left_of-left in
    let is = g.find.ensures.sound in
    less-without g.args.locks.now g.gives_up.new.self (t c) (k c) (e c) g.left_of-left.result (there c) g.gives_up.ensures.locks g.gives_up.ensures.counts (left c true goes) is.one_row all

pub returns-in_default-clause-rest : goal.returns-in_default-clause-rest
returns-in_default-clause-rest c = λ stays after held all.
    let none : entry_at c.args.table.now.entries c.args.holder ≡ None = cc in
    none-changed c.args.locks.now c.args.table.now.entries c.args.holder none after all

pub returns-in_default-clause-gone : goal.returns-in_default-clause-gone
returns-in_default-clause-gone c = λ goes all.
    let none : entry_at c.args.table.now.entries c.args.holder ≡ None = cc in
    let is = c.find.ensures.sound in
    none-without c.args.locks.now c.args.table.now.entries c.args.holder none is.one_row all
