use Rattle.std.proofs.Common.{refl}
use Rattle.tlsf_command.proofs.fault_report.FaultReport.reason.Goals as goal

pub returns-in-6 : goal.returns-in-6
returns-in-6 c = rw c.in-6.is refl

pub returns-in-11 : goal.returns-in-11
returns-in-11 c = rw c.in-11.is refl

pub returns-in-12 : goal.returns-in-12
returns-in-12 c = rw c.in-12.is refl

pub returns-in-13 : goal.returns-in-13
returns-in-13 c = rw c.in-13.is refl

pub returns-in-14 : goal.returns-in-14
returns-in-14 c = rw c.in-14.is refl

pub returns-in-15 : goal.returns-in-15
returns-in-15 c = rw c.in-15.is refl

pub returns-in-16 : goal.returns-in-16
returns-in-16 c = rw c.in-16.is refl

pub returns-in-17 : goal.returns-in-17
returns-in-17 c = rw c.in-17.is refl
