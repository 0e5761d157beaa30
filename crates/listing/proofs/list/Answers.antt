-- `listing::list` meets its contract: the lines of a sheet that is worked, or the one of its refusal.
use Rattle.listing.proofs.Sheets.{lines-listed, refusal-listed}
use Rattle.listing.proofs.list.Goals as goal

pub returns-in-Ok : goal.returns-in-Ok
returns-in-Ok c = rw (← lines-listed c.args.s.now c.in-Ok.ensures.refused) c.in-Ok.ensures.listed

pub returns-in-Err : goal.returns-in-Err
returns-in-Err c =
    let put = rw (c.verdict-number.ensures, c.in-Err.ensures.listed) at c.put_refused.ensures in
    rw (← refusal-listed c.args.s.now c.in-Err.refusal c.in-Err.ensures.refused) put
