use Rattle.std.proofs.Common.{◌≡◌, arith, sym, ◌∙◌}
use Rattle.std.specs.String.{string_bytes}
use Rattle.std.proofs.lemmas.Bool.Decides.{nat_tests}
use Rattle.std.proofs.lemmas.Result.{IfOk-at_ok}
use Rattle.hex.specs.Hex.{IsBytes, encode_lower}
use Rattle.texts.specs.PartTexts.{hex_text}
use Rattle.texts.proofs.Hex.{encoded}
use Rattle.texts.proofs.Texts.{some_hex}
use Rattle.texts.proofs.part_text.print_bytes.Goals as goal

pub returns : goal.returns
returns c =
    let small : IsBytes c.args.bytes.now = λ i. let f = c.type_inv.bytes i in omega arith in
    let digits : string_bytes c.in_ok-digits.digits ≡ encode_lower c.args.bytes.now = IfOk-at_ok _ c.in_ok-digits.was c.encode.ensures in
    let word : c.as_str.result.now ≡ hex_text c.args.bytes.now =
    c.as_str.ensures.value ∙ digits ∙ encoded c.args.bytes.now small
    ∙ sym (some_hex c.args.bytes.now (grind (arith, nat_tests, c.is_empty.ensures, c.if-is_empty.false))) in
    rw (sym word) c.print_str-2.ensures
