use Rattle.ov_laws.proofs.Watermarks.Later.{final_later, final_all_later, later_draw_above, serial_later}
use Rattle.ov_laws.proofs.laws.watermarks.final_stays.Goals as goal

pub returns-clause-low : goal.returns-clause-low
returns-clause-low c = final_later

pub returns-clause-full : goal.returns-clause-full
returns-clause-full c = final_all_later

pub returns-clause-later : goal.returns-clause-later
returns-clause-later c = λ t h w closed more e g drawn lawful drew. later_draw_above t h more e g drawn w closed lawful drew

pub returns-clause-serial : goal.returns-clause-serial
returns-clause-serial c = λ t h more w closed lawful n le. serial_later t h more w n closed lawful le
