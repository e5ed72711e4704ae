use Rattle.fitting.proofs.Evaluating.{Marking}
use Rattle.profile.specs.Inner.Decoded.{profile_in}
use Rattle.request.specs.Inner.Places.{request_of}
use Rattle.fitting.specs.Inner.Rowwise.{fits_nth, trials_nth}
use Rattle.fitting.proofs.try_rows.Given as goal

abbrev pub invariant-loop-i : goal.invariant-loop-i
invariant-loop-i l =
    Marking (fits_nth (request_of l.request.bytes.now) l.given (profile_in l.image.bytes.now))
    (trials_nth (request_of l.request.bytes.now) (profile_in l.image.bytes.now)) l.trigger.first l.trigger.count l.i l.mask l.trials
