-- The names that most proofs cite, passed on from one place.
pub use Rattle.std.proofs.Common.{All, AllPairs, Bool, Contains, Err, IfOk, IsOkUnless, List, MatchResult, None, Ok, OnErr, OnOk}
pub use Rattle.std.proofs.Common.{Option, Result, Some, [], ap, append-nil, append_assoc, arith, drop, eq-eqb, false, get_or}
pub use Rattle.std.proofs.Common.{get_or-take, if◌then◌else◌, inl, inr, length, length-append, length-set, length-take, map}
pub use Rattle.std.proofs.Common.{nat_eq, nat_lt, ne_eqb, position, refl, slice_get, slice_set, subst, suc, sym, take, true}
pub use Rattle.std.proofs.Common.{true≢false, unwrap_or, zero, zero-add, ℕ, ◌*◌, ◌++◌, ◌+◌, ◌-◌, ◌<◌, ◌==◌, ◌^◌, ◌∙◌, ◌∷◌, ◌≡◌}
pub use Rattle.std.proofs.Common.{◌≢◌, ◌≤◌, ◌⊎◌}
pub use Rattle.std.proofs.lemmas.List.Elements.{All-cons, All-drop, All-head, All-map, All-nil, All-push, All-set, All-tail}
pub use Rattle.std.proofs.lemmas.{List.Elements.All-weaker, Bool.Decides.nat_tests, Simd.map-map}
pub use Rattle.std.proofs.lemmas.List.{get_or-map, get_or_default, length-map, length_push, map-set, map_more, map_push}
pub use Rattle.std.proofs.lemmas.Option.{get_or_from_slice_get, same_Some, slice_get-map, slice_get_cases, slice_get_read}
pub use Rattle.std.proofs.lemmas.{Option.slice_get_within, List.Folds.list_any_at, List.Folds.list_any_none}
pub use Rattle.std.specs.{Option.ForSome, Option.option_map, Option.option_or, List.list_any, List.position_from}
pub use Rattle.lora_frame.specs.{Ports.longest_payload, Reading.addr_of, Reading.uplink_of, Reading.uplink_record}
pub use Rattle.uplink_gather.specs.Hearing.{after_hearing, has_gateway, hear_answer, hear_step, is_crowded, place_by, place_of}
pub use Rattle.uplink_gather.specs.Hearing.{with_copy}
pub use Rattle.uplink_gather.specs.Gatherings.{Gathering, Gatherings, copies_of, is_closed_at, numbered, rewritten}
pub use Rattle.uplink_gather.specs.{declared.answers.Heard.TheVariants.Joined, declared.answers.Heard.TheVariants.Opened}
pub use Rattle.uplink_gather.specs.{declared.answers.Place.TheVariants.Joins, declared.answers.Place.TheVariants.Opens}
pub use Rattle.uplink_gather.specs.{declared.answers.Heard.Heard, declared.fault.HearFault.HearFault}
pub use Rattle.uplink_gather.specs.{declared.heard.HeardCopy.HeardCopy, declared.limits.Limits.Limits}
pub use Rattle.rx_windows.proofs.RankLaws.{All-ranked, AllPairs-head, AllPairs-tail, length-ranked}
pub use Rattle.rx_windows.specs.Windows.{IsHeard}
pub use Rattle.answer_ticket.specs.{Job.IsJob, Job.IsPort, Job.Job, Job.Payload, Job.payload_len, Ended.IsWithinLongest}
pub use Rattle.answer_ticket.specs.{Ended.longest_us, declared.outcome.Ending.Ending}
pub use Rattle.server_desk.specs.Airtime.{AreAirtimes, CanRaise, airtime_of_ending, answered_at, answered_for, known_airtime}
pub use Rattle.server_desk.specs.Airtime.{own_airtime, raised, raised_at, sent_airtime, total_at, settled_limit, whole_airtime}
pub use Rattle.server_desk.specs.{Airtime.is_booked_on, Airtime.settled_airtime, Desk.total_of, Settings.is_gateway_in_range}
pub use Rattle.server_desk.specs.{declared.verdict.NewUplink.NewUplink}
pub use Rattle.server_desk.specs.Desk.{DeskView, desk_hear, desk_of, desk_queue, desk_settled, desk_take, desk_taken, known_after}
pub use Rattle.server_desk.specs.Hearing.{Decision, Join, Open, Opening, Refuse, answer_to, asked_by, copy_fault, copy_of}
pub use Rattle.server_desk.specs.Hearing.{decide_copy, decide_frame, decide_place, is_last}
pub use Rattle.server_desk.specs.Invariant.{AreOut, IsDesk, IsGathered, MayBeGiven, IsSendable, IsServable, count_out}
pub use Rattle.server_desk.specs.Invariant.{desk_answer, outs, own_out, shown, verdict_of}
pub use Rattle.server_desk.specs.Settings.{AreSettings, IsDeviceInRange, IsGatewayInRange, SettingLists, are_counts_in_range}
pub use Rattle.server_desk.specs.Settings.{device_fault, first_fault, gateway_fault, has_rx2_band, is_device_in_range}
pub use Rattle.server_desk.specs.Register.{Asked, Device, Register, device_with, first_at, is_among, next_place, opened_device}
pub use Rattle.server_desk.specs.Settling.{delivered, has_carried, is_here, kept_by, may_settle, sent_of, without_head}
pub use Rattle.server_desk.specs.Taking.{fault_of, given_or, head, is_engaged, job_for, with_counter_given}
pub use Rattle.server_desk.specs.{Answers.Done, Answers.Pending, Answers.Known, Answers.NotGiven, Answers.Sent}
pub use Rattle.server_desk.specs.{Answers.is_not_given, declared.faults.DeskFault.TheVariants.NoMemory}
pub use Rattle.server_desk.specs.{declared.device.KnownDevice.KnownDevice, declared.faults.DeskFault.DeskFault}
pub use Rattle.server_desk.specs.{declared.faults.TakeFault.TakeFault, declared.heard.Heard1.Heard1}
pub use Rattle.server_desk.specs.{declared.setting.DeviceSetting.DeviceSetting, declared.setting.GatewaySetting.GatewaySetting}
unfoldable pub use Rattle.server_desk.specs.{Hearing.decide, Settings.settings_fault, Taking.take_answer}
