use Rattle.std.proofs.Common.{◌≡◌, false, sym, ap, ◌∙◌}
use Rattle.ov_io.specs.Memory.{SinkState, is_to_fail}
use Rattle.ov_io.proofs.Shelves.{never_failed}
use Rattle.ov_io.proofs.memory.MemorySinkSink.put.Goals as goal

pub returns-clause-chosen : goal.returns-clause-chosen
returns-clause-chosen c =
    let told : is_to_fail c.self.inside.failing.items c.self.inside.calls ≡ false =
    rw (← c.saturating_add-self-inside.ensures, ← c.deref.ensures.value) (sym c.contains.ensures.value ∙ c.if-contains.false) in
    let here : is_to_fail c.args.self.now.failing c.args.self.now.calls ≡ false = ap (λ (s : SinkState). is_to_fail s.failing s.calls) (sym c.self.view_is) ∙ told in
    (λ e. absurd (never_failed c.append.result c.append.ensures.memory e), λ t. absurd cc)
