use Rattle.ov_laws.proofs.Values.Settled.{known_is_serial, value_is_serial, values_are_one}
use Rattle.ov_laws.proofs.laws.values.settled_values.Goals as goal

pub returns-clause-known : goal.returns-clause-known
returns-clause-known c = λ t h s n run le i key. known_is_serial t run.0 h s n key run.1 le i

pub returns-clause-each : goal.returns-clause-each
returns-clause-each c = λ t h x run is. value_is_serial t run.0 h is.number is.settler is.values x run.1 is.there is.among

pub returns-clause-one : goal.returns-clause-one
returns-clause-one c = λ t h run x y one other.
    values_are_one t run.0 h one.number other.number one.settler other.settler one.values other.values x y run.1 one.there other.there one.among other.among
