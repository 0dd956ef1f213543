-- What actors are asked to do, as code says it and as the definitions do.
use Rattle.ov_history.specs.Gives.{Act}
use Rattle.ov_history.specs.Gives as acts
use Rattle.ov_follow.specs.Lines as lines
use Rattle.ov_world.specs.declared.act.Act as codes
use Rattle.ov_world.specs.declared.act.Act.TheVariants.{Begin, Take, Publish, Ask, Settle, Stop}
use Rattle.ov_world.specs.declared.line.Line.{Line}

-- the act of the definitions that code says so
abbrev pub act_in : codes.Act → Act
act_in (Begin session clock) = acts.Begin session clock
act_in (Take place) = acts.Take place
act_in (Publish clock) = acts.Publish clock
act_in (Ask mode) = acts.Ask mode
act_in Settle = acts.Settle
act_in Stop = acts.Stop

-- the line of the definitions that code says so
abbrev pub line_in : Line → lines.Line
line_in line = record { actor = line.actor; act = act_in line.act }
