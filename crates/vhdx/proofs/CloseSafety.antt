-- Demand 3 for closing, by document 01's table: where no row applies there is a plan.
-- Assumes nothing.
use Rattle.vhdx_close_steps.proofs.Safety.{close-safe, close-power-safe}
use Rattle.vhdx.specs.CloseSafety.{CrashSafeClose, PowerSafeClose}
use Rattle.vhdx.proofs.CrashSafety.{planned-exactly-then}

pub crash-safe-close : CrashSafeClose
crash-safe-close identifier sixteen named-bytes o f bytes a cs =
    let p = (planned-exactly-then o).1 a in
    close-safe identifier sixteen named-bytes o f bytes p.0 p.1 p.2 cs

pub power-safe-close : PowerSafeClose
power-safe-close identifier sixteen named-bytes o d f e bytes a h =
    let p = (planned-exactly-then o).1 a in
    close-power-safe identifier sixteen named-bytes o d f e bytes p.0 p.1 p.2 h
