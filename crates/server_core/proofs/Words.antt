-- The words of the proofs, from one place.
pub use Rattle.std.proofs.lemmas.List.Elements.{All-cons, All-filter, All-head, All-nil, All-tail, All-weaker}
pub use Rattle.std.proofs.lemmas.List.Elements.{Contains-append_left, Contains-append_right, Contains-push_cases}
pub use Rattle.std.proofs.Common.{ap, append-nil, append_assoc, arith, inl, inr, length-append, subst, sym, true≢false, ◌∙◌}
pub use Rattle.std.proofs.lemmas.Option.{get_or_from_slice_get, same_Some, slice_get_cases, slice_get_within}
pub use Rattle.std.proofs.lemmas.{List.drop_all, List.drop_more, List.map-append, List.map-id, List.set-set, Simd.map-map}
pub use Rattle.std.proofs.lemmas.List.Kept.{AllPairs-cons}
pub use Rattle.std.specs.Prelude.{All, AllPairs, Bool, Contains, Err, IfOk, IsOkUnless, IsSome, IsTrue, List, MatchResult, None}
pub use Rattle.std.specs.Prelude.{Ok, OnErr, OnOk, Option, Result, Some, [], cond, drop, false, find, get_or, if◌then◌else◌}
pub use Rattle.std.specs.Prelude.{length, map, nat_le, nat_lt, not, refl, slice_get, slice_set, suc, true, zero, ℕ, ⊤, ◌++◌, ◌+◌}
pub use Rattle.std.specs.Prelude.{is_none, ◌-◌, ◌<◌, ◌==◌, ◌∷◌, ◌≡◌, ◌≢◌, ◌≤◌, ◌⊎◌}
pub use Rattle.std.specs.List.{AllZip, position_from}
pub use Rattle.std.specs.Option.{IsSomeAnd, option_and_then, option_map, option_map_or}
pub use Rattle.resv_list.specs.Reservations.{airtime_us, place, start_of, without}
pub use Rattle.resv_list.specs.{Sorted.RisesFrom, Sorted.place_by, declared.reservation.Reservation.Reservation}
pub use Rattle.gateway_book.specs.Step.{State, after_cancel, book_step, cancel_answer, cancel_step, found_or, is_fit-IsFit}
pub use Rattle.gateway_book.specs.{Step.is_named, Step.tick_step, Book.Book, Book.ticked, Book.with_booked, Answer.IsAsked}
pub use Rattle.gateway_book.specs.{Answer.Rules, Answer.refusal_of, Orderly.IsOrderly, Lawful.IsLawful, declared.ask.Ask.Ask}
pub use Rattle.gateway_book.specs.declared.{cancel.CancelFault.CancelFault, refusal.Refusal.Refusal, totals.Totals.Totals}
pub use Rattle.gateway_book.specs.declared.cancel.CancelFault.TheVariants.{Begun, NotHere}
pub use Rattle.gateway_book.proofs.RememberedLaws.{orderly_booked, orderly_cancelled, remembers_answer, remembers_booked}
pub use Rattle.gateway_book.proofs.RememberedLaws.{remembers_cancel, remembers_cancelled, remembers_own, remembers_ticked}
pub use Rattle.gateway_book.proofs.OrderlyLaws.{may_join, orderly_filter, orderly_nil, orderly_placed}
pub use Rattle.gateway_book.proofs.{ApartLaws.one_after_another, CancelLaws.net_named, AnswerLaws.accepted}
pub use Rattle.gateway_book.proofs.{AnswerLaws.book_step-accepted, KeptLaws.kept-nil, KeptLaws.net-place}
pub use Rattle.lora_frame.specs.Reading.{addr_of}
pub use Rattle.uplink_gather.specs.Gatherings.{Gathering, Gatherings, close_step, copies_of, is_due, is_open, is_open_at}
pub use Rattle.uplink_gather.specs.Gatherings.{numbered, rewritten}
pub use Rattle.uplink_gather.specs.{Hearing.hear_answer, Hearing.with_copy, declared.answers.Heard.TheVariants.Joined}
pub use Rattle.uplink_gather.specs.{declared.answers.Heard.TheVariants.Opened, declared.fault.HearFault.HearFault}
pub use Rattle.uplink_gather.specs.{declared.heard.HeardCopy.HeardCopy, declared.limits.Limits.Limits}
pub use Rattle.rx_windows.specs.{Laws.IsWindowOf, Windows.candidates_of, declared.candidate.Candidate.Candidate}
pub use Rattle.rx_windows.proofs.RankLaws.{AllPairs-head, AllPairs-tail}
pub use Rattle.rx_windows.proofs.WindowLaws.{IsWindowOf-ranked, on_gateways_that_heard}
pub use Rattle.answer_ticket.specs.{Job.Job, Job.Payload, Job.ask_for, Job.candidate_at, Job.candidates, Tried.IsBooked}
pub use Rattle.answer_ticket.specs.{Tried.IsReceipt, Tried.IsWrong, Tried.next_of, Tried.refusal_by, Ended.answered_as}
pub use Rattle.answer_ticket.specs.{Ticket.Standing, Ticket.candidate_of, declared.outcome.Ending.Ending}
pub use Rattle.answer_ticket.specs.{declared.outcome.Ending.TheVariants.Unanswered, declared.outcome.Outcome.Outcome}
pub use Rattle.answer_ticket.specs.{declared.tried.Receipt.Receipt, declared.tried.TriedOut.TriedOut}
pub use Rattle.server_desk.specs.Desk.{DeskView, desk_hear, desk_of, desk_pass, desk_queue, desk_settled, desk_take, desk_taken}
pub use Rattle.server_desk.specs.{Desk.known_after, Settling.sent_of, Settling.without_head}
pub use Rattle.server_desk.specs.Settling.{after_settling, delivered, has_carried, head_taken, is_here, kept_by, may_settle}
pub use Rattle.server_desk.specs.Airtime.{answer_airtime, answered_at, answered_in, known_airtime}
pub use Rattle.server_desk.specs.Answers.{Answer, Booked, Open, Out, Settled, Waiting, is_given, is_not_given, known_of}
pub use Rattle.server_desk.specs.Hearing.{Decision, Join, Refuse, answer_to, asked_by, copy_of, register_after}
pub use Rattle.server_desk.specs.Register.{Device, Register, device_with, opened_device, is_among}
pub use Rattle.server_desk.specs.World.{Gateway, World, gateway_with, ids, known, opened_gateway, opening}
pub use Rattle.server_desk.specs.{Taking.job_of, Taking.plan_for, Taking.with_counter_given, Queueing.after_queueing}
pub use Rattle.server_desk.specs.{Queueing.queue_answer, Queueing.with_payload, Passing.closing, Passing.pass_answer}
pub use Rattle.server_desk.specs.Settings.{AreSettings, IsGatewayInRange, SettingLists}
pub use Rattle.server_desk.specs.declared.{answers.Asked.Asked, answers.Known.Known, answers.Sent.Sent, heard.Heard1.Heard1}
pub use Rattle.server_desk.specs.declared.answers.Known.TheVariants.{Done, NotGiven}
pub use Rattle.server_desk.specs.declared.faults.{DeskFault.DeskFault, QueueFault.QueueFault, TakeFault.TakeFault}
pub use Rattle.server_desk.specs.declared.faults.TakeFault.TheVariants.{NoMemory}
pub use Rattle.server_desk.specs.declared.setting.{DeviceSetting.DeviceSetting, GatewaySetting.GatewaySetting}
pub use Rattle.server_desk.proofs.Numbers.{length-rewritten, map-rewritten, numbered-append, numbered-append_cases, numbered-here}
pub use Rattle.server_desk.proofs.Numbers.{numbered-map, numbered_after, numbered_cases, numbered_next, same_rewritten}
pub use Rattle.server_desk.proofs.Places.{all_get, from_map, get_contains, get_set_after, get_set_cases, get_set_same, map_set}
pub use Rattle.server_desk.proofs.Places.{map_there, found_there, is_placed, place_within}
pub use Rattle.server_desk.proofs.Decided.{join_decided, open_decided}
pub use Rattle.server_core.specs.Promise.{EveryInterleavingIsSafe, HaveOwnCounters, IsMember, IsOwnWindow, IsSafe, jobs_given}
pub use Rattle.server_core.specs.{Promise.setting_of, Promise.with_given, Tries.IsSettled, Tries.end_lines, Tries.tries_from}
pub use Rattle.server_core.specs.{declared.event.Event.Event}
pub use Rattle.server_core.specs.Schedule.{answer_steps, closing_steps, due_from, due_numbers, given_steps, is_accepted}
pub use Rattle.server_core.specs.Schedule.{reached, schedule, step_of, up_to_first}
pub use Rattle.server_desk.specs.UsualLimits.{usual_limits}
pub use Rattle.server_core.specs.Server.{AreBooksOf, AreHeard, AreHere, Does, HasHeard, IsAt, IsBookOf, IsCancelled, IsIdle}
pub use Rattle.server_core.specs.Opened.{AreBooksFor, IsBookFor, IsOpened, IsWhole, resuming}
pub use Rattle.server_core.specs.Server.{IsBetweenCalls, Makes, Moves, Seen, cancelled_line, heard_line, ids_of}
pub use Rattle.server_core.specs.Server.{noting, pass_whole, queued_line, seen, with_lines, with_step}
pub use Rattle.server_core.specs.Steps.{After, Cancel, Given, Hear, Heard, Pass, Queue, Queued, Reply, Run, Settle, Step, Take}
pub use Rattle.server_core.specs.Steps.{Tick, Try, answers_after, cancel, cancel_at, cancel_of, cancel_sent, ending_of, hear}
pub use Rattle.server_core.specs.Steps.{hear_by, pass, queue, refused, run, sent_by, sent_for, settle, settle_as, settle_of, take}
pub use Rattle.server_core.specs.Steps.{take_by, terms, tick, tick_at, tried_by, try, try_candidate, try_of, try_on}
pub use Rattle.server_core.specs.Tries.{AreTries, EndsTries, GoesOn, IsAnswered, IsGivenTo, MovesOn, HasTicketOut, IsSame}
pub use Rattle.server_core.specs.Entries.{entries, entry_at, gateway_of, gateways_after, kept_gateway, lines_for, not_taken}
pub use Rattle.server_core.specs.{DeskCalls.DeskCallsAreSteps, DeskCalls.told, declared.entry.Line.Line}
unfoldable pub use Rattle.resv_list.specs.Reservations.{net}
unfoldable pub use Rattle.uplink_gather.specs.Gatherings.{due_of}
unfoldable pub use Rattle.server_desk.specs.{Hearing.decide, Taking.take_answer}
unfoldable pub use Rattle.server_core.specs.{Schedule.event_steps, Schedule.pass_steps, Schedule.schedule_from}
unfoldable pub use Rattle.server_core.specs.{Entries.entries_from, Entries.step_lines, Steps.run_from, Steps.step}
