use Rattle.std.proofs.Common.{sym, ap, ◌∙◌}
use Rattle.std.proofs.lemmas.Result.{IfOk-weaker}
use Rattle.serde_json.specs.Data.{string}
use Rattle.texts.proofs.Spelling.{as_digits, as_text}
use Rattle.texts.proofs.table.bytes_value.Goals as goal

pub returns-in-Ok : goal.returns-in-Ok
returns-in-Ok c =
    let utf8 = c.in-Ok.ensures.cases in
    IfOk-weaker c.try_from_str.result _ _ (λ v is. is ∙ ap string utf8.0 ∙ sym (as_text c.args.bytes.now utf8.1)) c.try_from_str.ensures

pub returns-in-Err : goal.returns-in-Err
returns-in-Err c = IfOk-weaker c.hex_value.result _ _ (λ v is. is ∙ sym (as_digits c.args.bytes.now c.in-Err.ensures.cases.0)) c.hex_value.ensures
