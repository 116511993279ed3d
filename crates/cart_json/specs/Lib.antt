pub mod CartReplies
