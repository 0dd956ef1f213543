use Rattle.std.proofs.Common.{List, Option, subst, sym}
use Rattle.std.specs.List.{AllByRecursion}
use Rattle.std.proofs.lemmas.Result.{IfOk-weaker}
use Rattle.ov_base.specs.Word.{Reads}
use Rattle.ov_functor.specs.declared.item.Item.{Item}
use Rattle.ov_event.specs.ItemWords.{IsItem, items_text}
use Rattle.ov_event.proofs.ItemWords.{items_reads}
use Rattle.ov_event.proofs.item_text.parse_items.Goals as goal

pub returns-clause-reads : goal.returns-clause-reads
returns-clause-reads c =
    IfOk-weaker c.items_read.result _ _ (λ o e. subst (λ (t : Option (List Item)). Reads items_text (AllByRecursion IsItem) c.args.text.now t) (sym e) (items_reads c.args.text.now)) c.items_read.ensures
