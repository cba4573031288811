use Rattle.std.proofs.Common.{◌≡◌, ◌<◌, ◌≤◌, ℕ, ◌+◌, List, [], ◌∷◌, ◌++◌, length, take, get_or, sym, ap, ◌∙◌, arith}
use Rattle.std.proofs.lemmas.List.{get_or-map, length-map, take_all, take_more}
use Rattle.std.proofs.lemmas.List.Sums.{fold-append}
use Rattle.std.specs.List.{fold}
use Rattle.capcore.proofs.AtEnd.{named, named-clients}
use Rattle.capcore.proofs.CommonPieces.{Holder, KeptTable, Table, changed_by, entries_on, fold-on_inode, holder, holders_of_rows, owed}
use Rattle.capcore.proofs.sizes.owe_on.Goals as goal

pub loop-number-preserved : goal.loop-number-preserved
loop-number-preserved c =
    let t : Table = c.args.table.now.entries in
    let i : ℕ = c.loop-number.number-index in
    let cs : List ℕ = c.as_slice-numbers.result.now in
    let ks : List Holder = named c.args.ino cs in
    let k : Holder = holder (record { 0 = get_or cs i 0 }) c.args.ino in
    let inside : i < length ks = omega (arith, c.loop-number-test.true, length-map cs (λ (n : ℕ). holder (record { 0 = n }) c.args.ino)) in
    let here : get_or ks i k ≡ k = get_or-map (λ (n : ℕ). holder (record { 0 = n }) c.args.ino) cs i 0 k c.loop-number-test.true in
    let more : take (i + 1) ks ≡ take i ks ++ k ∷ [] = take_more ks i k inside ∙ ap (λ (k : Holder). take i ks ++ k ∷ []) here in
    c.owe.ensures
    ∙ ap (λ (u : KeptTable). record u { entries = changed_by owed u.entries k }) c.loop-number.invariant
    ∙ ap (λ (u : Table). record c.args.table.now { entries = u }) (sym (ap (fold (changed_by owed) t) more ∙ fold-append (changed_by owed) t (take i ks) (k ∷ [])))

pub returns : goal.returns
returns c =
    let t : Table = c.args.table.now.entries in
    let cs : List ℕ = c.as_slice-numbers.result.now in
    let ks : List Holder = named c.args.ino cs in
    let past : length ks ≤ c.loop-number.number-index = omega (arith, c.loop-number-test.false, length-map cs (λ (n : ℕ). holder (record { 0 = n }) c.args.ino)) in
    let all : ks ≡ holders_of_rows (entries_on t c.args.ino) =
    ap (named c.args.ino) (c.as_slice-numbers.ensures.value ∙ c.clients_on-clients.ensures.clients) ∙ named-clients c.args.ino t.rows in
    c.loop-number.invariant
    ∙ ap (λ (u : Table). record c.args.table.now { entries = u })
    (ap (fold (changed_by owed) t) (take_all c.loop-number.number-index ks past ∙ all) ∙ fold-on_inode owed t c.args.ino c.clients_on-clients.ensures.sound)
