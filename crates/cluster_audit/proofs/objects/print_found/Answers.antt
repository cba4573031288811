use Rattle.std.proofs.Common.{ℕ, Bool, List, [], ◌∷◌, ◌++◌, codes, map, sym, ap, ◌∙◌}
use Rattle.std.proofs.lemmas.Result.{on_ok_weaker}
use Rattle.serde_json.specs.Data.{Data, string}
use Rattle.capbits.specs.Sets.{minus}
use Rattle.texts.specs.Pieces.{piece_value}
use Rattle.texts.specs.Values.{bytes_value, json_line, natural, object_of, or_null}
use Rattle.cluster_audit.specs.declared.notes.Detail.{Detail}
use Rattle.cluster_audit.specs.Findings.{is_unjudged}
use Rattle.cluster_audit.specs.Objects.{access_value, caps_or_null, caps_value, found_object, path_value, unjudged_value, why_value}
use Rattle.cluster_audit.proofs.objects.print_found.Goals as goal

pub returns-in-Each : goal.returns-in-Each
returns-in-Each c =
    let a = c.args in
    let h = a.held.now in
    let f = a.found.now in
    let old = a.text.now.items in
    let path : List (List ℕ) = map (λ name. name.now) h.path.now in
    let line : Data → Data → Data → Data → List ℕ = λ why missing revoked unjudged. old ++ json_line (object_of (
    (codes "kind", string (codes "held-beyond"))
    ∷ (codes "client", bytes_value h.client.now)
    ∷ (codes "rules", why)
    ∷ (codes "missing", missing)
    ∷ (codes "inode", natural h.number)
    ∷ (codes "path", path_value path)
    ∷ (codes "session", natural h.session)
    ∷ (codes "holds", caps_value h.issued)
    ∷ (codes "may_not", caps_value f.caps)
    ∷ (codes "being_revoked", revoked)
    ∷ (codes "unjudged_from", unjudged)
    ∷ [])) in
    let missing : Data = or_null access_value f.missing in
    let revoked : Data = caps_or_null (minus f.caps h.pending) in
    let unjudged : Bool = is_unjudged h.unchecked f.caps in
    on_ok_weaker c.print_pieces.result
    (λ more. more
    ∙ ap (λ (w : Data). line w (piece_value c.access_if.result) (piece_value c.revoked_if.result) (piece_value c.unjudged_if.result)) c.why.ensures
    ∙ ap (λ (m : Data). line (why_value f.missing f.denial) m (piece_value c.revoked_if.result) (piece_value c.unjudged_if.result)) c.access_if.ensures
    ∙ ap (λ (r : Data). line (why_value f.missing f.denial) missing r (piece_value c.unjudged_if.result)) c.revoked_if.ensures
    ∙ ap (line (why_value f.missing f.denial) missing revoked) (c.unjudged_if.ensures ∙ ap unjudged_value c.is_unjudged.ensures)
    ∙ ap (λ (d : Detail). old ++ found_object d h.number path h.client.now h.session h.issued h.pending f unjudged) (sym c.in-Each.is))
    c.print_pieces.ensures.line
