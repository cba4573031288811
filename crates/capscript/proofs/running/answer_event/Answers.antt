use Rattle.std.proofs.Common.{◌≡◌, ℕ, List, Result, Ok, Err, OnErr, sym, ◌∙◌, subst}
use Rattle.std.specs.Io.KnownBytes.{Appends}
use Rattle.inotree.proofs.Results.{on_ok}
use Rattle.texts.specs.Watched.{inner_of}
use Rattle.capscript.proofs.running.answer_event.Goals as goal

pub returns-in-Ok-reply_lines-clause-ok : goal.returns-in-Ok-reply_lines-clause-ok
returns-in-Ok-reply_lines-clause-ok g c = on_ok c.write_text.result c.write_text.ensures.ok (λ wrote. (
  c.in-Ok-reply_lines.text.items,
  record { reply = c.in-Ok.reply; next = c.in-Ok.ensures.promised.next; text_is = c.in-Ok-reply_lines.ensures },
  subst (λ (text : List ℕ). Appends (g.W.Write.contents (inner_of c.args.writer.now)) (g.W.Write.contents (inner_of c.write_text.new.writer)) text) c.as_slice.ensures.value wrote,
))

where_err : {T E : Type 0} {P : Type 0} (r : Result T E) (e : E) → r ≡ Err e → OnErr r P → P
where_err (Ok x) e is h = absurd (cc)
where_err (Err x) e is h = h

pub returns-in-Ok-reply_lines-clause-part : goal.returns-in-Ok-reply_lines-clause-part
returns-in-Ok-reply_lines-clause-part g c is =
    let front = where_err c.write_text.result _ is c.write_text.ensures.err in
    (front.0, front.1, record { reply = c.in-Ok.reply; next = c.in-Ok.ensures.promised.next; text_is = sym front.2 ∙ c.as_slice.ensures.value ∙ c.in-Ok-reply_lines.ensures }, front.3)
