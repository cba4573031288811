use Rattle.std.proofs.Common.{ℕ, List, [], ◌∷◌, ◌++◌, codes, sym, ap, ◌∙◌}
use Rattle.std.proofs.lemmas.Result.{on_ok_weaker}
use Rattle.serde_json.specs.Data.{string}
use Rattle.texts.specs.declared.shape.Shape.{Shape}
use Rattle.texts.specs.Values.{bytes_value, json_line, natural, object_of}
use Rattle.cluster_audit.specs.Callers.{Inode}
use Rattle.cluster_audit.specs.Lines.{unknown_line}
use Rattle.cluster_audit.specs.Objects.{path_value, unknown_value}
use Rattle.cluster_audit.specs.Shaped.{unknown_in}
use Rattle.cluster_audit.proofs.unjudged.print_unknown.Goals as goal

pub returns-in-Lines : goal.returns-in-Lines
returns-in-Lines c =
    let e = c.args.entry.now in
    let old = c.args.text.now.items in
    let what = c.args.unknown in
    let client : List ℕ = e.client.now in
    on_ok_weaker c.print_unknown_line.result
    (λ more. more
    ∙ ap (λ (at : Inode). old ++ unknown_line what at.path client c.client-session.result) c.inode.view_is
    ∙ ap (λ (n : ℕ). old ++ unknown_line what e.inode.now.path client n) c.client-session.ensures
    ∙ ap (λ (s : Shape). old ++ unknown_in s what e.number e.inode.now.path client e.holder.now.client) (sym c.in-Lines.is))
    c.print_unknown_line.ensures

pub returns-in-Objects : goal.returns-in-Objects
returns-in-Objects c =
    let e = c.args.entry.now in
    let old = c.args.text.now.items in
    let what = c.args.unknown in
    let client : List ℕ = e.client.now in
    let line : List ℕ → List (List ℕ) → List ℕ = λ word path. old ++ json_line (object_of (
    (codes "kind", string word)
    ∷ (codes "inode", natural e.number)
    ∷ (codes "path", path_value path)
    ∷ (codes "client", bytes_value client)
    ∷ (codes "session", natural c.client-session.result)
    ∷ [])) in
    on_ok_weaker c.print_pieces.result
    (λ more. more
    ∙ ap (λ (at : Inode). line c.unknown_word.result.now at.path) c.inode.view_is
    ∙ ap (λ (word : List ℕ). line word e.inode.now.path) c.unknown_word.ensures
    ∙ ap (λ (n : ℕ). old ++ json_line (unknown_value what e.number e.inode.now.path client n)) c.client-session.ensures
    ∙ ap (λ (s : Shape). old ++ unknown_in s what e.number e.inode.now.path client e.holder.now.client) (sym c.in-Objects.is))
    c.print_pieces.ensures.line
