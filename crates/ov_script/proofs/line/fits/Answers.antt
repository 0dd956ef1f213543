use Rattle.ov_script.proofs.LineWordsAgain.{keys_fit, parts_fit}
use Rattle.ov_script.proofs.line.fits.Goals as goal

pub returns-in-Do : goal.returns-in-Do
returns-in-Do c = rw c.in-Do.is (λ can. (c.name_fits-in-Do.ensures, parts_fit c.in-Do.parts can.0 can.1 (rw c.as_slice.ensures at c.parts_fit.ensures)))

pub returns-in-Snap : goal.returns-in-Snap
returns-in-Snap c = rw c.in-Snap.is (λ can. (c.name_fits-in-Snap.ensures, keys_fit c.in-Snap.keys can (rw c.as_slice-in-Snap.ensures at c.keys_fit.ensures)))
