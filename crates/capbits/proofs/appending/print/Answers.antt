use Rattle.std.proofs.Common.{◌≡◌, ◌++◌, Result, Ok, Err, OnOk, is_ok, ap, ◌∙◌}
use Rattle.std.proofs.lemmas.Fmt.{contents_after_writes}
use Rattle.std.proofs.lemmas.Option.{IfSome_then}
use Rattle.capbits.proofs.appending.print.Goals as goal

-- what holds where one call went well, where another did just then
on_ok : {X Y Z : Type 0} (r : Result X Y) (s : Result X Z) {P Q : Type 0} → is_ok s ≡ is_ok r → (P → Q) → OnOk r P → OnOk s Q
on_ok (Ok x) (Ok y) e f p = f p
on_ok (Err x) (Ok y) e f p = absurd (cc)
on_ok r (Err y) e f p = tt

pub returns : goal.returns
returns g c =
    on_ok c.write-done.result c.map_err.result c.map_err.ensures.variant (λ wrote. IfSome_then (g.D.Display.output c.args.more) wrote (λ bytes calls.
    contents_after_writes _ (λ t. t.bytes.items) (λ _ _ _ took. took) _ bytes _ calls ∙ ap (λ t. t.items ++ bytes) c.replace.ensures.value)) c.write-done.ensures.writes
