use Rattle.std.proofs.Common.{◌≡◌, ◌++◌, List, [], ◌∷◌, take, sym, ap, ◌∙◌, append_assoc, if◌then◌else◌}
use Rattle.capstep.specs.declared.outcome.Message.TheVariants.{Recall}
use Rattle.capstep.specs.Messages.{caps_messages, recall_messages, size_messages}
use Rattle.capcore.proofs.CommonPieces.{EntryRow, Message}
use Rattle.capcore.proofs.Polling.{take-take_append}

pub returns-in_ok-add : Rattle.capcore.proofs.poll.add_due.Goals.returns-in_ok-add
returns-in_ok-add c = record {
  ok = λ s tree known.
      let max = c.args.max in
      let row : EntryRow = c.args.row.now in
      let before : List Message = c.args.list.now in
      let caps : List Message = caps_messages s row in
      let size : List Message = size_messages s row in
      let asked : recall_messages row ≡ Recall row.holder.ino ∷ [] = ap (λ b. if b then Recall row.holder.ino ∷ [] else []) c.if-row.true in
      c.in_ok-add.ensures.ok
      ∙ ap (λ (xs : List Message). take max (xs ++ Recall row.holder.ino ∷ []))
      (c.in_ok-add_size.ensures.ok s tree ∙ ap (λ (xs : List Message). take max (xs ++ size)) (c.in_ok-add_caps.ensures.ok s known))
      ∙ ap (λ (xs : List Message). take max (take max (take max (before ++ caps) ++ size) ++ xs)) (sym asked)
      ∙ take-take_append max (take max (before ++ caps) ++ size) (recall_messages row)
      ∙ ap (take max) (append_assoc (take max (before ++ caps)) size (recall_messages row))
      ∙ take-take_append max (before ++ caps) (size ++ recall_messages row)
      ∙ ap (take max) (append_assoc before caps (size ++ recall_messages row) ∙ ap (λ (xs : List Message). before ++ xs) (sym (append_assoc caps size (recall_messages row))));
}
