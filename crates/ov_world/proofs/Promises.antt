-- What is true of every lawful history, from the laws.
use Rattle.ov_history.specs.Past.{History}
use Rattle.ov_history.specs.May.{Setting}
use Rattle.ov_laws.specs.Runs.{IsRun}
use Rattle.ov_laws.proofs.Sessions.Order.{begins_rise, replies_rise, snap_after_reply}
use Rattle.ov_laws.proofs.Values.Settled.{known_is_serial, value_is_serial, values_are_one}
use Rattle.ov_laws.proofs.Values.Shown.{drawn_after, replied_is_expected}
use Rattle.ov_laws.proofs.Watermarks.Finals.{visible_final, replicated_final, done_replied, later_above, low_is_mark, full_is_mark, done_is_mark}
use Rattle.ov_laws.proofs.Watermarks.Orders.{full_under_low, replicated_under_visible}
use Rattle.ov_laws.proofs.Watermarks.Publications.{own_grows}
use Rattle.ov_laws.proofs.Windows.Harvests.{harvest_is_window, window_stays}
use Rattle.ov_world.specs.Holds.{HasFinalMarks, HasWindows, HasSerialValues, HasRightReplies, Holds}

module _ (t : Setting) (h : History) (run : IsRun t h) where
  final_marks : HasFinalMarks t h
  final_marks = record {
    visible_is = λ a. visible_final t h a run.1;
    replicated_is = λ a. replicated_final t h a run.1;
    order = λ a. replicated_under_visible t run.0 h run.1 a;
    marks = λ a g. full_under_low t run.0 h run.1 a g;
    done = λ a. done_replied t h a run.1;
    later = λ a more e g drawn lawful drew. later_above t h more a e g drawn lawful drew;
    low_grows = λ a g time vector lawful. own_grows t (low_is_mark t.topology) h lawful.0 a g time vector lawful.1.guard;
    full_grows = λ a g time vector lawful. own_grows t (full_is_mark t.topology) h lawful.0 a g time vector lawful.1.guard;
    done_grows = λ a g time vector lawful. own_grows t (done_is_mark t.topology) h lawful.0 a g time vector lawful.1.guard;
  }

  windows : HasWindows t h
  windows = record {
    window = λ s round gathered. harvest_is_window t h s round run.0 run.1 gathered.open_is gathered.enough;
    stays = λ s round opened more lawful. window_stays t h more s round lawful opened;
  }

  serial_values : HasSerialValues h
  serial_values = record {
    known = λ s n le i key. known_is_serial t run.0 h s n key run.1 le i;
    each = λ x is. value_is_serial t run.0 h is.number is.settler is.values x run.1 is.there is.among;
    alike = λ x y one other. values_are_one t run.0 h one.number other.number one.settler other.settler one.values other.values x y run.1 one.there other.there one.among other.among;
  }

  right_replies : HasRightReplies h
  right_replies = record {
    expected = λ g s c reply has. replied_is_expected t run.0 h has.number g s c has.place reply run.1 has.there;
    later = λ reply v after. drawn_after t h reply v run after;
    snaps = λ s n reply snaps.
        let old = snaps.replied in
        let new = snaps.shown in
        snap_after_reply t run.0 h snaps.earlier snaps.later old.gate new.gate s old.seq new.seq n old.place new.place reply snaps.list run.1 snaps.less old.there new.there;
    begins = λ i j s c d less one other. begins_rise t h i j one.gate other.gate s c d one.start other.start run.1 less one.there other.there;
    replies = λ i j s c d less one other. replies_rise t h i j one.gate other.gate s c d one.place other.place one.reply other.reply run.1 less one.there other.there;
  }

  pub holds : Holds t h
  holds = record {
    lawful = run;
    marks = final_marks;
    windows = windows;
    values = serial_values;
    replies = right_replies;
  }
