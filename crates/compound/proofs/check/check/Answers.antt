-- The groups of checks, one after the other, are the call's list.
use Rattle.std.proofs.Common.{rules, ◌≡◌, ◌++◌, [], List, ℕ, sym, ◌∙◌}
use Rattle.model.specs.declared.Job.{Job}
use Rattle.model.specs.Answer.{Condition, accepted, first_refusal}
use Rattle.compound.specs.Lent.{Lent, lent_of}
use Rattle.compound.specs.Call.{law_checks, start_checks, table_checks, zero_checks, room_checks, checks}
use Rattle.compound.proofs.Call.{law_limits, checked_limits}
use Rattle.model.proofs.Answer.{step_accepts}
use Rattle.compound.proofs.Returned.{refused_first}
use Rattle.compound.proofs.check.check.Goals as goal

-- what follows the checks of the start, and what follows those of the law
abbrev after_start : Job → List ℕ → Lent → List Condition
after_start job weights lent = (table_checks job weights ++ zero_checks job weights) ++ room_checks job lent

abbrev after_law : Job → List ℕ → Lent → List Condition
after_law job weights lent = start_checks job.start ++ after_start job weights lent

pub returns-in_err-check_law-clause-answer : goal.returns-in_err-check_law-clause-answer
returns-in_err-check_law-clause-answer c =
    refused_first (law_checks c.args.job.law) (after_law c.args.job c.args.weights.now (lent_of c.args.lent.now)) c.from_residual.result
    c.in_err-check_law.field-0.0 (search rules) c.in_err-check_law.ensures

pub returns-in_err-check_start-clause-answer : goal.returns-in_err-check_start-clause-answer
returns-in_err-check_start-clause-answer c =
    let job = c.args.job in
    let rest = after_start job c.args.weights.now (lent_of c.args.lent.now) in
    refused_first (start_checks job.start) rest c.from_residual-in_err-check_start.result
    c.in_err-check_start.field-0.0 (search rules) c.in_err-check_start.ensures
    ∙ step_accepts (law_checks job.law) (start_checks job.start ++ rest) tt c.in_ok-check_law.ensures

pub check_table-requires : goal.check_table-requires
check_table-requires c = law_limits c.args.job.law c.in_ok-check_law.ensures

pub returns-in_err-divisors-clause-answer : goal.returns-in_err-divisors-clause-answer
returns-in_err-divisors-clause-answer c =
    let job = c.args.job in
    let weights = c.args.weights.now in
    let lent = lent_of c.args.lent.now in
    refused_first (table_checks job weights ++ zero_checks job weights) (room_checks job lent) c.from_residual-in_err-divisors.result
    c.in_err-divisors.field-0.0 (search rules) c.in_err-divisors.ensures.answer
    ∙ step_accepts (start_checks job.start) (after_start job weights lent) tt c.in_ok-check_start.ensures
    ∙ step_accepts (law_checks job.law) (after_law job weights lent) tt c.in_ok-check_law.ensures

pub returns-in_err-check_room-clause-answer : goal.returns-in_err-check_room-clause-answer
returns-in_err-check_room-clause-answer c =
    let job = c.args.job in
    let weights = c.args.weights.now in
    let lent = lent_of c.args.lent.now in
    refused_first (room_checks job lent) [] c.from_residual-in_err-check_room.result
    c.in_err-check_room.field-0.0 (search rules) c.in_err-check_room.ensures
    ∙ step_accepts (table_checks job weights ++ zero_checks job weights) (room_checks job lent) tt c.in_ok-divisors.ensures.answer
    ∙ step_accepts (start_checks job.start) (after_start job weights lent) tt c.in_ok-check_start.ensures
    ∙ step_accepts (law_checks job.law) (after_law job weights lent) tt c.in_ok-check_law.ensures

-- each group accepts
passed : (job : Job) (weights : List ℕ) (lent : Lent) → accepted ≡ first_refusal (law_checks job.law)
    → accepted ≡ first_refusal (start_checks job.start) → accepted ≡ first_refusal (table_checks job weights ++ zero_checks job weights)
    → accepted ≡ first_refusal (room_checks job lent)
    → accepted ≡ first_refusal (checks job weights lent)
passed job weights lent law start table room =
    room ∙ step_accepts (table_checks job weights ++ zero_checks job weights) (room_checks job lent) tt table
    ∙ step_accepts (start_checks job.start) (after_start job weights lent) tt start
    ∙ step_accepts (law_checks job.law) (after_law job weights lent) tt law

pub invariant_of-result : goal.invariant_of-result
invariant_of-result c =
    let job = c.args.job in
    let weights = c.args.weights.now in
    let lent = lent_of c.args.lent.now in
    let all = passed job weights lent c.in_ok-check_law.ensures c.in_ok-check_start.ensures c.in_ok-divisors.ensures.answer
    c.in_ok-check_room.ensures in
    record { limits = (checked_limits job weights lent [] (sym all)).0; divided = c.in_ok-divisors.ensures.divisors }

pub returns-clause-answer : goal.returns-clause-answer
returns-clause-answer c =
    passed c.args.job c.args.weights.now (lent_of c.args.lent.now)
    c.in_ok-check_law.ensures c.in_ok-check_start.ensures c.in_ok-divisors.ensures.answer c.in_ok-check_room.ensures
