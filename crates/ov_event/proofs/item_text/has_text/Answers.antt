use Rattle.ov_event.proofs.ItemWords.{form_is}
use Rattle.ov_event.proofs.item_text.has_text.Goals as goal

pub returns : goal.returns
returns c = form_is c.args.item.now c.is_formed.result c.fields_fit.ensures c.is_formed.ensures
