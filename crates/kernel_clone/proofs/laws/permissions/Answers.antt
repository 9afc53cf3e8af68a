use Rattle.kernel_clone.proofs.CallLaws.{calls_are, every_may, without_mail_are}
use Rattle.kernel_clone.proofs.laws.permissions.Goals as goal

pub returns-clause-every : goal.returns-clause-every
returns-clause-every c = every_may

pub returns-clause-calls : goal.returns-clause-calls
returns-clause-calls c = calls_are

pub returns-clause-without_mail : goal.returns-clause-without_mail
returns-clause-without_mail c = without_mail_are
