use Rattle.tp_pool_holds.proofs.staffing.+staffing.Goals as goal

-- the thread's work may be called where it was made: its types live as long, and may cross to the thread
pub fn::launch::work+FnOnce::call_once-work-requires :
    goal.fn::launch::work+FnOnce::call_once-work-requires
fn::launch::work+FnOnce::call_once-work-requires g t c κs within =
    let all = c.requires.1.1.1.1.1 in
    let sent = all.1.1.1.1.1.1 in
    (c.decreases, (within.0, (within.1.0, (within.1.1.0, (within.1.1.1.0, (within.1.1.1.1, (all.0, (all.1.0, (all.1.1.0, (all.1.1.1.0, (all.1.1.1.1.0, (sent.0, (sent.1, (sent.2, (sent.3, (sent.4, (sent.5, (sent.6, all.1.1.1.1.1.0))))))))))))))))))

-- the bounds of the function itself: `search` enters so many records before them that it does not come to the last two
pub run_worker-staff_heir-staffed-requires-static-K :
    goal.run_worker-staff_heir-staffed-requires-static-K
run_worker-staff_heir-staffed-requires-static-K g t c κs within = c.requires-raw.1.1.1.1.1.1.1.1.1.0

pub run_worker-staff_heir-staffed-requires-static-R :
    goal.run_worker-staff_heir-staffed-requires-static-R
run_worker-staff_heir-staffed-requires-static-R g t c κs within = c.requires-raw.1.1.1.1.1.1.1.1.1.1.0
