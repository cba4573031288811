use Rattle.std.proofs.Common.{◌≡◌, ℕ, List, codes, ◌++◌, map, option_map, append_assoc, sym, ap, ◌∙◌}
use Rattle.std.proofs.lemmas.Result.{on_ok_weaker}
use Rattle.cluster_audit.specs.Lines.{beside_text, holder_text, on_inode}
use Rattle.cluster_audit.proofs.Noting.{behind}
use Rattle.cluster_audit.proofs.pairs.print_conflict_text.Goals as goal

end_behind : (a b c d : List ℕ) → (a ++ (b ++ c)) ++ d ≡ a ++ (b ++ (c ++ d))
end_behind a b c d = simp append_assoc

pub returns : goal.returns
returns c =
    let last = c.print_str.new.text.items in
    let conflict = c.args.named.now.conflict in
    let detail = c.args.detail in
    let place : List ℕ = on_inode detail c.args.named.now.number (option_map (λ names. map (λ name. name.now) names.now) c.args.named.now.path) in
    let one : List ℕ = holder_text detail conflict.one.client (option_map (λ name. name.now) c.args.named.now.one) in
    let other : List ℕ = holder_text detail conflict.other.client (option_map (λ name. name.now) c.args.named.now.other) in
    let beside : List ℕ = beside_text conflict in
    let behind_beside : List ℕ = other ++ codes "\n" in
    on_ok_weaker c.print_str.result
    (λ more. (behind c.args.text.now.items c.print_on.new.text.items last place (one ++ (beside ++ behind_beside)) c.in_ok-print_on.ensures
    (behind c.print_on.new.text.items c.print_client.new.text.items last one (beside ++ behind_beside) c.in_ok-print_client.ensures
    (behind c.print_client.new.text.items c.print_beside.new.text.items last beside behind_beside c.in_ok-print_beside.ensures
    (behind c.print_beside.new.text.items c.print_client-2.new.text.items last other (codes "\n") c.in_ok-print_client-2.ensures more))))
    ∙ ap (λ (t : List ℕ). c.args.text.now.items ++ (place ++ t)) (sym (end_behind one beside other (codes "\n"))))
    c.print_str.ensures
